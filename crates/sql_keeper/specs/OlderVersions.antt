-- Whether a database of an older version keeps that version, as an opening asks it.
-- Source: profile.
use Rattle.std.specs.Prelude.{◌≡◌, IsTrue, Result, IfErr, OnOk}
use Rattle.sql_tables.specs.Words.{TablesVersion}
use Rattle.sqlite.specs.State.{KeepsCommit, State, HasCleanDisk, Survives}
use Rattle.sql_tables.specs.Statements.{IsStill}
use Rattle.sql_tables.specs.declared.fault.OpenFault.{OpenFault}
use Rattle.sql_tables.specs.declared.fault.OpenFault.TheVariants.{Foreign, Version, Rules, Older}
use Rattle.sql_keeper.specs.Causes.{IsOtherThan, IsUnruledMeta, KeepsVersion}

-- inside a transaction that isn't committed: the version of the tables is kept, or a fault says why
-- not
pub record AsksVersion {A : Type 0} (v : TablesVersion) (old new : State)
    (result : Result A OpenFault) : Type 0 where
  pub keeps : HasCleanDisk new → OnOk result (KeepsVersion v old.now.trees)
  pub kept : HasCleanDisk new → KeepsCommit old new
  pub version : HasCleanDisk new → IfErr result (λ e. e ≡ Version → IsOtherThan v old.now.trees)
  pub rules : HasCleanDisk new → IfErr result (λ e. e ≡ Rules → IsUnruledMeta v old.now.trees)
  pub other : IfErr result (λ e. (¬ (e ≡ Foreign)) × (¬ (e ≡ Older)))
  pub survives : Survives old new (λ _. ⊥)

-- outside it: the fault of a database of a version before the latest; nothing is written
-- rule: database-migrated.older
pub record IsNotLatest (v : TablesVersion) (old new : State) (fault : OpenFault) : Type 0 where
  pub older : HasCleanDisk new → fault ≡ Older → KeepsVersion v old.now.trees
  pub version : HasCleanDisk new → fault ≡ Version → IsOtherThan v old.now.trees
  pub rules : HasCleanDisk new → fault ≡ Rules → IsUnruledMeta v old.now.trees
  pub ours : ¬ (fault ≡ Foreign)
  pub still : HasCleanDisk new → IsTrue new.is_open → IsStill old new
  pub survives : Survives old new (λ _. ⊥)
