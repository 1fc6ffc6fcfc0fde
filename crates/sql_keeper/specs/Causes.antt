-- Why a database isn't opened: its causes, of which no two hold of one database.
-- Source: profile.
use Rattle.std.specs.Prelude.{◌≡◌, ◌<◌, ◌⊎◌, IfErr, Result, Some}
use Rattle.sql_tables.specs.Words.{TablesVersion}
use Rattle.sqlite_trees.specs.Tree.{Trees}
use Rattle.sqlite.specs.Effect.{Database}
use Rattle.sqlite.specs.State.{HasCleanDisk, State}
use Rattle.sql_tables.specs.Schema.{latest, schema_at}
use Rattle.sql_tables.specs.Stages.{AreStoredAt}
use Rattle.sql_rows.specs.Content.{tables_content}
use Rattle.sql_rows.specs.Ruled.{IsMetaOther, IsRefusedMeta, IsRuledMeta}
use Rattle.sql_rows.specs.Values.{Meta}
use Rattle.sql_tables.specs.Opens.{IsVersion}
use Rattle.sql_tables.specs.declared.fault.OpenFault.{OpenFault}
use Rattle.sql_tables.specs.declared.fault.OpenFault.TheVariants.{Foreign, Version, Rules, Store}
use Rattle.sql_tables.specs.declared.fault.OpenFault.TheVariants.{Memory, Older}
use Rattle.sql_keeper.specs.Shelves.{HasShelf}

-- ---- what is kept once

-- it is there in its rules, and keeps this version
pub record KeepsVersion (v : TablesVersion) (trees : Trees) : Type 0 where
  pub row : Meta
  pub is : (tables_content trees).meta ≡ Some row
  pub ruled : IsRuledMeta row
  pub version : row.version ≡ v

-- it is there, and keeps another version than this, whatever else it holds
abbrev pub IsOtherThan : TablesVersion → Trees → Type 0
IsOtherThan v trees = IsMetaOther v (tables_content trees).meta

-- it isn't there; or it keeps this version, and is out of its rules
abbrev pub IsUnruledMeta : TablesVersion → Trees → Type 0
IsUnruledMeta v trees = IsRefusedMeta v (tables_content trees).meta

-- it isn't there; or it keeps this version, and is out of its rules, or this is the latest and the
-- texts that are kept aren't those of a shelf
abbrev pub AreUnruled : TablesVersion → Trees → Type 0
AreUnruled v trees = (row : Meta) → (tables_content trees).meta ≡ Some row → (row.version ≡ v)
    × (IsRuledMeta row → (v ≡ latest) × ¬ HasShelf row.book (tables_content trees).books)

-- a fault of what was read of a version: of another version that is kept, or of rules that what is
-- there isn't in, and of nothing else
pub record TellsVersion {A : Type 0} (v : TablesVersion) (IsOut : Type 0) (old new : State)
    (result : Result A OpenFault) : Type 0 where
  pub version : HasCleanDisk new → IfErr result (λ e. e ≡ Version → IsOtherThan v old.now.trees)
  pub rules : HasCleanDisk new → IfErr result (λ e. e ≡ Rules → IsOut)
  pub other : IfErr result (λ e. (¬ (e ≡ Foreign)) × (¬ (e ≡ Older)))

-- ---- causes

-- the tables are those of no version
abbrev pub IsForeign : Database → Type 0
IsForeign db = (v : TablesVersion) → IsVersion v → ¬ (db.schema ≡ schema_at v)

-- the tables are those of a version, no rowid of theirs twice, and another version is kept, whatever
-- else is kept beside it
-- rule: database-migrated.older
pub record IsOtherVersion (db : Database) : Type 0 where
  pub version : TablesVersion
  pub known : IsVersion version
  pub schema : db.schema ≡ schema_at version
  pub stored : AreStoredAt version db.trees
  pub other : IsOtherThan version db.trees

-- the tables are those of a version before the latest, no rowid of theirs twice, and that version
-- is kept
-- rule: database-migrated.older: a database is reported as an older one if its tables are of that
--   version and keep it; one that keeps another version is reported by its version, whatever else
--   it keeps
pub record IsOlder (db : Database) : Type 0 where
  pub version : TablesVersion
  pub known : IsVersion version
  pub older : version < latest
  pub schema : db.schema ≡ schema_at version
  pub stored : AreStoredAt version db.trees
  pub kept : KeepsVersion version db.trees

-- the tables are those of a version, and a rowid of theirs comes twice, or what is kept once isn't
-- there or, where it keeps that version, isn't in the rules of who opens it
pub record IsUnruled (db : Database) : Type 0 where
  pub version : TablesVersion
  pub known : IsVersion version
  pub schema : db.schema ≡ schema_at version
  pub unruled : AreStoredAt version db.trees → AreUnruled version db.trees

-- what a fault says of a database that has it; those of the store and of memory say nothing of it
-- rule: database-opened.fault: a database has at most one of the faults 1, 2, 3 and 6
abbrev pub HasFault : OpenFault → Database → Type 0
HasFault Foreign db = IsForeign db
HasFault Version db = IsOtherVersion db
HasFault Rules db = IsUnruled db
HasFault Store db = ⊥
HasFault Memory db = ⊥
HasFault Older db = IsOlder db

abbrev pub IsStores : OpenFault → Type 0
IsStores fault = (fault ≡ Store) ⊎ (fault ≡ Memory)

-- a database has one fault at most
-- rule: database-opened.fault
abbrev pub AreCausesApart : Type 0
AreCausesApart =
    (db : Database) (one two : OpenFault) → HasFault one db → HasFault two db → one ≡ two
