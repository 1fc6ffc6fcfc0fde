-- What is tested of a database that was made elsewhere.
-- Source: profile.
use Rattle.std.specs.Prelude.{◌≡◌, ◌≤◌, ◌<◌, ℕ, ◌+◌, List, take, codes, None, [], ◌∷◌, pos, negsuc}
use Rattle.std.specs.Prelude.{false, IsTrue}
use Rattle.std.specs.Prelude.{Result, IfErr, IfOk, OnOk, ◌++◌, ⊤}
use Rattle.std.specs.List.{AllByRecursion}
use Rattle.sql_tables.specs.Words.{TablesVersion, TreeNumber}
use Rattle.sqlite_value.specs.declared.value.Value.TheVariants.{Int}
use Rattle.sqlite_value.specs.declared.keys.Collation.TheVariants.{Binary}
use Rattle.sqlite_sql.specs.Term.{lit, col}
use Rattle.sqlite_sql.specs.Query.{Query, inner, end}
use Rattle.sqlite_schema.specs.declared.schema.Table.{Table}
use Rattle.sqlite_schema.specs.declared.command.Command.TheVariants.{Select}
use Rattle.sqlite.specs.Given.{IsPlain}
use Rattle.sqlite.specs.Listing.{understood, reads_listing}
use Rattle.sqlite.proofs.Callers.{command_of}
use Rattle.sqlite.specs.Effect.{Database}
use Rattle.sqlite_trees.specs.declared.store.Store.{Ghosts}
use Rattle.sqlite.specs.Held.{Held, state}
use Rattle.sqlite.specs.State.{State, HasCleanDisk, IsUnchanged, Survives}
use Rattle.sql_tables.specs.Keyed.{IsStored}
use Rattle.sql_tables.specs.Schema.{latest, schema_at}
use Rattle.sql_tables.specs.Stages.{AreStoredAt}
use Rattle.sql_tables.specs.Statements.{IsStill, Spares}
use Rattle.sql_tables.specs.declared.fault.OpenFault.{OpenFault}
use Rattle.sql_tables.specs.declared.fault.OpenFault.TheVariants.{Foreign, Version, Rules, Store}
use Rattle.sql_tables.specs.declared.fault.OpenFault.TheVariants.{Memory, Older}

-- one of the versions that there are
abbrev pub IsVersion : TablesVersion → Type 0
IsVersion v = (1 ≤ v) × (v ≤ latest)

-- the schema is that of a version, and the first of its tables have no rowid twice
pub record IsStoredTo (v : TablesVersion) (k : ℕ) (s : State) : Type 0 where
  pub schema : s.now.schema ≡ schema_at v
  pub stored : AllByRecursion (λ (t : Table). IsStored (s.now.trees t.tree))
      (take k (schema_at v).tables)

abbrev pub HasStoredTo : TablesVersion → ℕ → State → Type 0
HasStoredTo v k s = HasCleanDisk s → IsStoredTo v k s

-- which version the database says it has is read by whoever opens it, not with the tables; nor is
-- it refused with them for being an older one
abbrev pub IsNoVersion : OpenFault → Type 0
IsNoVersion fault = (¬ (fault ≡ Version)) × (¬ (fault ≡ Older))

-- what a fault says of a database that was there: its tables are those of no version, or they are
-- those of one, and a rowid comes twice; or they are those of a version before the latest
-- rule: database-opened.open-fault-told: what is reported of the tables that a database has
abbrev pub IsOpenFaultTold : Database → OpenFault → Type 0
IsOpenFaultTold db Foreign = (v : TablesVersion) → IsVersion v → ¬ (db.schema ≡ schema_at v)
IsOpenFaultTold db Version = ⊥
IsOpenFaultTold db Rules = (v : TablesVersion) × IsVersion v × (db.schema ≡ schema_at v) ×
    ¬ AreStoredAt v db.trees
IsOpenFaultTold db Store = ⊤
IsOpenFaultTold db Memory = ⊤
IsOpenFaultTold db Older = (v : TablesVersion) × IsVersion v × (v < latest) ×
    (db.schema ≡ schema_at v)

-- where it answers, the first tables have no rowid twice; whatever it answers, nothing is changed
pub record Finds {A : Type 0} (v : TablesVersion) (k : ℕ) (old new : State)
    (result : Result A OpenFault) : Type 0 where
  pub found : HasCleanDisk new → OnOk result (IsUnchanged old new × IsStoredTo v k new)
  pub told : IfErr result IsNoVersion
  pub means : HasCleanDisk new → IfErr result (IsOpenFaultTold old.now)
  pub spares : HasCleanDisk new → Spares old new
  pub survives : Survives old new (λ _. ⊥)

-- where it answers, no table of the version has a rowid twice
pub record FindsAll {A : Type 0} (v : TablesVersion) (old new : State) (result : Result A OpenFault)
    : Type 0 where
  pub found : HasCleanDisk new → OnOk result (IsUnchanged old new
      × (new.now.schema ≡ schema_at v) × AreStoredAt v new.now.trees)
  pub told : IfErr result IsNoVersion
  pub means : HasCleanDisk new → IfErr result (IsOpenFaultTold old.now)
  pub spares : HasCleanDisk new → Spares old new
  pub survives : Survives old new (λ _. ⊥)

-- the rowids of a table, in order
abbrev pub rowids_of : TreeNumber → Query
rowids_of tree = record {
  from = inner tree end;
  filter = [];
  group = None;
  project = col 1 0 ∷ [];
  distinct = false;
  collations = [];
  order = (col 1 0, record { collation = Binary; descending = false }) ∷ [];
  limit = lit (Int (negsuc 0));
  offset = lit (Int (pos 0));
}

-- over the schema of a version the text selects the rowids of this table, in order
pub record IsRowids (v : TablesVersion) (text : List ℕ) (table : Table) : Type 0 where
  pub command : command_of (understood (schema_at v) text)
      ≡ Select (record { lets = []; body = rowids_of table.tree }) (codes "rowid" ∷ [])
  pub listing : reads_listing (schema_at v) text ≡ false
  pub plain : IsPlain (understood (schema_at v) text)

-- the text selects the rowids of the table at this place of the version
pub record IsNext (v : TablesVersion) (text : List ℕ) (k : ℕ) : Type 0 where
  pub table : Table
  pub rest : List Table
  pub all : (schema_at v).tables ≡ take k (schema_at v).tables ++ table ∷ rest
  pub next : take (k + 1) (schema_at v).tables ≡ take k (schema_at v).tables ++ table ∷ []
  pub rowids : IsRowids v text table

-- the database has the tables of a version and no others, no rowid of theirs comes twice, no
-- transaction is open, and nothing was changed to find that
pub record IsFound (v : TablesVersion) (old new : State) : Type 0 where
  pub version : IsVersion v
  pub schema : new.now.schema ≡ schema_at v
  pub stored : AreStoredAt v new.now.trees
  pub settled : new.now ≡ new.committed
  pub unchanged : IsUnchanged old new

-- which version's tables the database has, or why it has none; nothing is changed
pub record FindsVersion {S : Type 0} (g : Ghosts S) (old new : Held S)
    (result : Result TablesVersion OpenFault) : Type 0 where
  pub found : HasCleanDisk (state g new) → IfOk result (λ v. IsFound v (state g old) (state g new))
  pub version : IfOk result IsVersion
  pub idle : OnOk result (new.in_transaction ≡ false)
  pub told : IfErr result IsNoVersion
  pub means : HasCleanDisk (state g new) → IfErr result (IsOpenFaultTold (state g old).now)
  pub still : HasCleanDisk (state g new) → IsTrue (state g new).is_open →
      IsStill (state g old) (state g new)
  pub survives : Survives (state g old) (state g new) (λ _. ⊥)
