-- What a part of a step leaves of a keeper, also where its store fails: a part may answer without a
-- call of the keeper, so that its store can be asked after it only where it could before.
-- Source: profile.
use Rattle.std.specs.Prelude.{◌≡◌, ◌⊎◌, IfOk, OnErr, OnOk, Result}
use Rattle.keepers.specs.declared.fault.StoreFault.{StoreFault}
use Rattle.keepers.specs.Faults.{HasCause}
use Rattle.keepers.specs.Seen.{Seen}
use Rattle.keepers.specs.Tables.{Tables}

-- a part that reads: what it finds is in the tables, they are as before, and so is what a stop
-- leaves
pub record PartReads {T : Type 0} (old new : Seen) (Found : T → Type 0)
    (result : Result T StoreFault) : Type 0 where
  pub found : new.clean → IfOk result Found
  pub same : new.clean → new.tables ≡ old.tables
  pub cleanness : new.clean → old.clean
  pub honesty : new.honest → old.honest
  pub stands : new.honest → old.clean → OnOk result new.clean
  pub left : new.honest → (t : Tables) → new.left t → old.left t
  pub cause : HasCause old.failed new.failed result

-- a part that may write: at a fault the tables are as before
-- rule: stop-run.writes
pub record PartKeeps {T : Type 0} (old new : Seen) (result : Result T StoreFault) : Type 0 where
  pub err : new.clean → OnErr result (new.tables ≡ old.tables)
  pub cleanness : new.clean → old.clean
  pub honesty : new.honest → old.honest
  pub stands : new.honest → old.clean → OnOk result new.clean
  pub cause : HasCause old.failed new.failed result

-- a stop leaves what it left before, or what was to be written
-- rule: stop-run.writes
abbrev pub Leaves : Seen → Seen → (Tables → Type 0) → Type 0
Leaves old new Written = new.honest → (t : Tables) → new.left t → old.left t ⊎ Written t
