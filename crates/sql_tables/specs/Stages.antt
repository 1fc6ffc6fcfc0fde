-- The tables as they are made, one after another.
-- Source: profile.
use Rattle.std.specs.Prelude.{◌≡◌, ℕ, true, false, List, [], drop, take, length, IsTrue}
use Rattle.std.specs.Prelude.{Result, OnErr, OnOk}
use Rattle.std.specs.List.{AllByRecursion}
use Rattle.sql_tables.specs.Words.{TablesVersion}
use Rattle.sqlite_trees.specs.Objects.{catalog_tree}
use Rattle.sqlite_trees.specs.Tree.{Trees}
use Rattle.sqlite_trees.specs.declared.store.Store.{Ghosts}
use Rattle.sqlite_schema.specs.declared.schema.Table.{Table}
use Rattle.sqlite_catalog.specs.Change.{KeepsRows}
use Rattle.sqlite_catalog.specs.Listing.{IsSound, Lists}
use Rattle.sqlite.specs.Held.{Held, state}
use Rattle.sqlite.specs.State.{State, HasCleanDisk, Shows, Survives}
use Rattle.sql_tables.specs.Keyed.{IsStored}
use Rattle.sql_tables.specs.Schema.{our_schema, latest, pieces_to, schema_at, tables_of}
use Rattle.sql_tables.specs.Statements.{AreStored, IsTabled, IsIdle}
use Rattle.sql_tables.specs.Texts.{stage}

abbrev pub AreEmpty : List Table → Trees → Type 0
AreEmpty tables trees = AllByRecursion (λ (t : Table). trees t.tree ≡ []) tables

-- the first pieces are there, and no others
abbrev pub HasStage : ℕ → State → Type 0
HasStage k s = HasCleanDisk s → IsTrue s.is_open → s.now.schema ≡ stage k

-- no table is there, and no transaction is open
pub record IsBlank (s : State) : Type 0 where
  pub none : s.now.schema ≡ stage 0
  pub settled : s.now ≡ s.committed

-- unless its disk failed it, or an earlier failure shut it
abbrev pub HasNoTable : State → Type 0
HasNoTable s = HasCleanDisk s → IsTrue s.is_open → IsBlank s

-- the tables among the pieces from one place to another
abbrev pub tables_between : ℕ → ℕ → List Table
tables_between k m = tables_of (drop k (take m (pieces_to latest)))

-- inside a transaction: the pieces from one place to another are made, and the database lists and
-- obeys the schema; the tables that were there keep their rows, and the new ones have none
pub record Adds (k m : ℕ) (old new : State) : Type 0 where
  pub schema : new.now.schema ≡ stage m
  pub sound : IsSound (stage m) new.now.trees
  pub rows : KeepsRows (stage k).tables old.now.trees new.now.trees
  pub empty : AreEmpty (tables_between k m) new.now.trees
  pub shows : Shows old new new.now old.committed true

-- inside a transaction: all tables and the indexes
-- rule: tables
pub record BuildsAll (old new : State) : Type 0 where
  pub book : IsTabled new
  pub lists : Lists (new.now.trees catalog_tree) our_schema
  pub empty : AreEmpty our_schema.tables new.now.trees
  pub shows : Shows old new new.now old.committed true

-- what is committed are all tables, empty
pub record CommitsAll (new : State) : Type 0 where
  pub idle : IsIdle new
  pub empty : AreEmpty our_schema.tables new.now.trees

-- outside a transaction: tables are made and committed, or the call answers an error and nothing is
-- changed; a stop in it leaves what was there, or these tables without a row
pub record Creates {A E S : Type 0} (g : Ghosts S) (made : State → Type 0) (tables : List Table)
    (old new : Held S) (result : Result A E) : Type 0 where
  pub idle : new.in_transaction ≡ false
  pub done : HasCleanDisk (state g new) → OnOk result (made (state g new))
  pub kept : HasCleanDisk (state g new) → IsTrue (state g new).is_open →
      OnErr result (IsTrue (state g old).is_open × ((state g new).now ≡ (state g old).now))
  pub crash : Survives (state g old) (state g new) (λ trees. AreEmpty tables trees)

-- ---- versions

-- the connection has the tables of a version, and no others
abbrev pub HasVersion : TablesVersion → State → Type 0
HasVersion v s = HasCleanDisk s → IsTrue s.is_open → s.now.schema ≡ schema_at v

-- the tables of a version have no rowid twice
abbrev pub AreStoredAt : TablesVersion → Trees → Type 0
AreStoredAt v trees =
    AllByRecursion (λ (t : Table). IsStored (trees t.tree)) (schema_at v).tables

-- inside a transaction: the tables of a version, empty
-- rule: tables
pub record BuildsTo (v : TablesVersion) (old new : State) : Type 0 where
  pub schema : new.now.schema ≡ schema_at v
  pub empty : AreEmpty (schema_at v).tables new.now.trees
  pub shows : Shows old new new.now old.committed true

-- what is committed are the tables of a version, empty
pub record CommitsTo (v : TablesVersion) (new : State) : Type 0 where
  pub schema : new.now.schema ≡ schema_at v
  pub empty : AreEmpty (schema_at v).tables new.now.trees
  pub settled : new.now ≡ new.committed

-- inside a transaction: the database of a version becomes one of the latest; the tables that were
-- there keep their rows, and the new ones have none
pub record Migrates (v : TablesVersion) (old new : State) : Type 0 where
  pub schema : new.now.schema ≡ our_schema
  pub sound : IsSound our_schema new.now.trees
  pub rows : KeepsRows (schema_at v).tables old.now.trees new.now.trees
  pub empty : AreEmpty (tables_between (length (pieces_to v)) (length (pieces_to latest)))
      new.now.trees
  pub book : AreStoredAt v old.now.trees → AreStored new.now.trees
  pub shows : Shows old new new.now old.committed true
