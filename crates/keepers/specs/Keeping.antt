-- What each call of a keeper leaves of its tables, where its store is clean after the call, what a
-- stop in it may leave, and when it may answer a fault.
-- Source: profile.
use Rattle.std.specs.Prelude.{◌≡◌, ◌⊎◌, IfOk, OnErr, OnOk, Result}
use Rattle.keepers.specs.declared.fault.StoreFault.{StoreFault}
use Rattle.keepers.specs.Faults.{HasCause}
use Rattle.keepers.specs.Seen.{Seen}
use Rattle.keepers.specs.Tables.{Tables}

-- a call that reads: what it finds is in the tables, they are as before, and so is what a stop
-- leaves; it answers only from a store that can still be asked
-- rule: store-faults.cause
pub record KeeperReads {T : Type 0} (old new : Seen) (Found : T → Type 0)
    (result : Result T StoreFault) : Type 0 where
  pub found : new.clean → IfOk result Found
  pub same : new.clean → new.tables ≡ old.tables
  pub cleanness : new.clean → old.clean
  pub honesty : new.honest → old.honest
  -- rule: honest-store
  pub stands : new.honest → OnOk result new.clean
  -- rule: honest-store
  pub left : new.honest → (t : Tables) → new.left t → old.left t
  pub cause : HasCause old.failed new.failed result

-- a call that writes: at a fault the tables are as before, and a stop leaves what it left before or
-- what was to be written
-- rule: store-faults.cause
pub record Keeps {T : Type 0} (old new : Seen) (Written : Tables → Type 0)
    (result : Result T StoreFault) : Type 0 where
  pub err : new.clean → OnErr result (new.tables ≡ old.tables)
  pub cleanness : new.clean → old.clean
  pub honesty : new.honest → old.honest
  pub stands : new.honest → OnOk result new.clean
  pub left : new.honest → (t : Tables) → new.left t → old.left t ⊎ Written t
  pub cause : HasCause old.failed new.failed result
