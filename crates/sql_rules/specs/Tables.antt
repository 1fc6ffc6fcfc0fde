-- Tables whose rows are in their rules.
-- Source: profile.
use Rattle.std.specs.Prelude.{◌≡◌, ◌<◌, ◌≤◌, ℕ, zero, suc, List, [], ◌∷◌, map, length}
use Rattle.std.specs.Prelude.{slice_index_or}
use Rattle.std.specs.Prelude.{None, pos, negsuc, false, IsTrue, Result, IfErr, OnOk}
use Rattle.std.specs.List.{AllByRecursion}
use Rattle.units.specs.Words.{Moment}
use Rattle.shelves.specs.Shelves.{Shelf}
use Rattle.sqlite_value.specs.declared.value.Value.TheVariants.{Int}
use Rattle.sqlite_value.specs.declared.keys.Collation.TheVariants.{Binary}
use Rattle.sqlite_sql.specs.Term.{lit, col}
use Rattle.sqlite_sql.specs.Query.{Query, inner, end}
use Rattle.sqlite_trees.specs.Tree.{Trees}
use Rattle.sqlite_schema.specs.declared.schema.Table.{Table}
use Rattle.sqlite_schema.specs.declared.command.Command.TheVariants.{Select}
use Rattle.sqlite.specs.Given.{IsPlain}
use Rattle.sqlite.specs.Listing.{understood, reads_listing}
use Rattle.sqlite.proofs.Callers.{command_of}
use Rattle.sqlite.specs.State.{State, HasCleanDisk, IsUnchanged, Survives}
use Rattle.sql_rows.specs.Content.{tables_content}
use Rattle.sql_tables.specs.Keyed.{IsStored}
use Rattle.sql_tables.specs.Schema.{our_schema, meta, schema_at}
use Rattle.sql_tables.specs.Statements.{Spares}
use Rattle.sql_tables.specs.declared.fault.OpenFault.{OpenFault}
use Rattle.sql_tables.specs.declared.fault.OpenFault.TheVariants.{Foreign, Version, Rules, Older}
use Rattle.sql_rules.specs.Beside.{AreRightBeside}
use Rattle.sql_rules.specs.GrantRows.{HaveBooks}
use Rattle.sql_rules.specs.Rules.{passes_at}
use Rattle.sql_rules.specs.Ruled.{last_in}

-- ---- what is in its rules

-- the table at a place among those of all versions
abbrev pub table_at : ℕ → Table
table_at at = slice_index_or our_schema.tables at meta

-- no rowid comes twice in the table at this place, and each row is in its rules and timely
pub record IsRuledAt (shelf : Shelf) (last : Moment) (at : ℕ) (trees : Trees) : Type 0 where
  pub stored : IsStored (trees (table_at at).tree)
  pub rows : AllByRecursion (λ row. IsTrue (passes_at shelf last at row)) (trees (table_at at).tree)

-- of the first tables
abbrev pub AreRuledTo : Shelf → Moment → ℕ → Trees → Type 0
AreRuledTo shelf last k trees = (at : ℕ) → at < k → IsRuledAt shelf last at trees

-- of all tables of a version, by this last moment
abbrev pub AreEachRuled : Shelf → Moment → ℕ → Trees → Type 0
AreEachRuled shelf last v trees = AreRuledTo shelf last (length (schema_at v).tables) trees

-- and none is wrong beside a row of another table
-- rule: rows-ruled.beside
pub record AreRightBy (shelf : Shelf) (last : Moment) (v : ℕ) (trees : Trees) : Type 0 where
  pub each : AreEachRuled shelf last v trees
  pub beside : AreRightBeside trees

-- and from version 2 on, each reservation has its book
-- rule: rows-ruled.granted
pub record AreRuledBy (shelf : Shelf) (last : Moment) (v : ℕ) (trees : Trees) : Type 0 where
  pub right : AreRightBy shelf last v trees
  pub granted : 2 ≤ v → HaveBooks shelf trees

-- the last moment that is kept there
abbrev pub last_kept : Trees → Moment
last_kept trees = last_in (tables_content trees).meta

-- of all tables of a version, by the last moment that they keep
-- rule: rows-ruled, rows-ruled.timely, rows-ruled.beside, rows-ruled.granted
abbrev pub AreRuled : Shelf → ℕ → Trees → Type 0
AreRuled shelf v trees = AreRuledBy shelf (last_kept trees) v trees

-- ---- how it is found

-- a fault of rows, of the store or of memory
pub record IsOfRows (fault : OpenFault) : Type 0 where
  pub ours : ¬ (fault ≡ Foreign)
  pub version : ¬ (fault ≡ Version)
  pub latest : ¬ (fault ≡ Older)

-- where it answers, the rows are so; where it reports a fault of the rules, they weren't; whatever
-- it answers, nothing is changed
-- rule: rows-ruled
pub record Tells {A : Type 0} (are : Trees → Type 0) (old new : State)
    (result : Result A OpenFault) : Type 0 where
  pub found : HasCleanDisk new → OnOk result (IsUnchanged old new × are new.now.trees)
  pub means : HasCleanDisk new → IfErr result (λ fault. fault ≡ Rules → ¬ are old.now.trees)
  pub told : IfErr result IsOfRows
  pub spares : HasCleanDisk new → Spares old new
  pub survives : Survives old new (λ _. ⊥)

-- the columns at these places of each row of a table, in the order of their rowids
abbrev pub rows_query : ℕ → List ℕ → Query
rows_query tree places = record {
  from = inner tree end;
  filter = [];
  group = None;
  project = map (col 1) places;
  distinct = false;
  collations = [];
  order = (col 1 0, record { collation = Binary; descending = false }) ∷ [];
  limit = lit (Int (negsuc 0));
  offset = lit (Int (pos 0));
}

-- over the schema of a version the text selects these columns
pub record IsRows (v : ℕ) (text : List ℕ) (tree : ℕ) (places : List ℕ) : Type 0 where
  pub names : List (List ℕ)
  pub command : command_of (understood (schema_at v) text)
      ≡ Select (record { lets = []; body = rows_query tree places }) names
  pub listing : reads_listing (schema_at v) text ≡ false
  pub plain : IsPlain (understood (schema_at v) text)

-- so many places, from one on
abbrev pub places_from : ℕ → ℕ → List ℕ
places_from place zero = []
places_from place (suc count) = place ∷ places_from (suc place) count

-- the places of the rowid and of all columns
abbrev pub places_at : ℕ → List ℕ
places_at at = places_from 0 (suc (length (table_at at).columns))

-- over the schema of a version the text selects all columns of the table at this place
abbrev pub IsTable : ℕ → List ℕ → ℕ → Type 0
IsTable v text at = IsRows v text (table_at at).tree (places_at at)
