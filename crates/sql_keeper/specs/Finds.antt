-- What is read of a database before a keeper is made over it.
-- Source: profile.
use Rattle.std.specs.Prelude.{◌≡◌, ◌≤◌, ◌⊎◌, IfErr, IfOk, OnOk, IsTrue, Result, false}
use Rattle.std.specs.String.{string_bytes}
use Rattle.units.specs.Words.{latest_moment}
use Rattle.sqlite_trees.specs.Tree.{Trees}
use Rattle.sqlite.specs.State.{State, HasCleanDisk, Survives}
use Rattle.sqlite_schema.specs.Rules.{Obeys}
use Rattle.sql_tables.specs.Words.{TablesVersion}
use Rattle.sql_tables.specs.Schema.{our_schema, latest}
use Rattle.sql_tables.specs.Statements.{HasIdleTables, IsStill, OnlyReads}
use Rattle.sql_rows.specs.Content.{tables_content}
use Rattle.sql_rows.specs.Plain.{ArePlain}
use Rattle.sql_rows.specs.declared.meta_rows.MetaColumns.{MetaColumns}
use Rattle.sql_rules.specs.Ruled.{IsInRules}
use Rattle.sql_tables.specs.declared.fault.OpenFault.{OpenFault}
use Rattle.sql_tables.specs.declared.fault.OpenFault.TheVariants.{Foreign, Version, Rules, Older}
use Rattle.sql_keeper.specs.Books.{IsBookOf}
use Rattle.sql_keeper.specs.Causes.{AreUnruled, HasFault, IsOtherThan, IsStores, IsUnruledMeta}
use Rattle.sql_keeper.specs.Causes.{TellsVersion}
use Rattle.sql_keeper.specs.Content.{last_in}
use Rattle.sql_keeper.specs.Left.{IsKept}
use Rattle.sql_keeper.specs.Shelves.{IsShelfOf}
use Rattle.sql_keeper.specs.declared.books.ReadBooks.{ReadBooks}

-- what was read is what the tables keep
pub record IsReadOf (r : ReadBooks) (trees : Trees) : Type 0 where
  pub kept : IsKept trees (string_bytes r.text)
  pub books : IsShelfOf (string_bytes r.text) (tables_content trees).books r.own
  pub last : r.last ≡ last_in (tables_content trees).meta

-- and each row is in its rules, as the statements write it
pub record IsReadRuled (r : ReadBooks) (trees : Trees) : Type 0 where
  pub read : IsReadOf r trees
  pub rules : Obeys our_schema trees → IsInRules r.own (tables_content trees)
  pub plain : ArePlain trees

-- what is kept once is that of this version; or a fault says why not
pub record IsMetaFound (v : TablesVersion) (old new : State)
    (result : Result MetaColumns OpenFault) : Type 0 where
  pub own : IfOk result (λ m. m.version ≡ v)
  pub last : IfOk result (λ m. m.last ≤ latest_moment)
  pub version : HasCleanDisk new → IfErr result (λ e. e ≡ Version → IsOtherThan v old.now.trees)
  pub rules : HasCleanDisk new → IfErr result (λ e. e ≡ Rules → IsUnruledMeta v old.now.trees)
  pub other : IfErr result (λ e. (¬ (e ≡ Foreign)) × (¬ (e ≡ Older)))

-- several reads of tables of the latest version: what is kept once there, and the shelf of the
-- texts that are kept; nothing was written
pub record ReadsBooks (old new : State) (result : Result ReadBooks OpenFault) : Type 0 where
  pub found : HasCleanDisk new →
      IfOk result (λ r. IsReadOf r old.now.trees × IsTrue new.is_open)
  pub given : IfOk result (λ r. r.given ≡ r.own)
  pub read : IfOk result (λ r. IsBookOf (string_bytes r.text) r.own.first)
  pub only : OnlyReads old new
  pub faults : TellsVersion latest (AreUnruled latest old.now.trees) old new result
  pub survives : Survives old new (λ _. old.is_open ≡ false)

-- the tables are ours, of the latest version, and this is their shelf; nothing was written
pub record FindsBooks (old new : State) (result : Result ReadBooks OpenFault) : Type 0 where
  pub found : HasCleanDisk new →
      IfOk result (λ r. IsReadOf r new.now.trees × IsStill old new × IsTrue new.is_open)
  pub given : IfOk result (λ r. r.given ≡ r.own)
  pub read : IfOk result (λ r. IsBookOf (string_bytes r.text) r.own.first)
  pub idle : OnOk result (HasIdleTables new)
  pub cause : HasCleanDisk new →
      IfErr result (λ fault. IsStores fault ⊎ HasFault fault old.now)
  pub still : HasCleanDisk new → IsTrue new.is_open → IsStill old new
  pub survives : Survives old new (λ _. ⊥)
