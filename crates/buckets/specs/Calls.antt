-- What each call on a purse does to its buckets, and what it answers.
-- Source: TS 32.296, account balance management function (reservation and debit of an account);
-- TS 32.299, session charging with unit reservation.
use Rattle.std.specs.Prelude.{◌≡◌, ◌+◌, ◌↔◌, List, Result, Err, OnOk, OnErr, IfOk, IsErrOf}
use Rattle.units.specs.Words.{Moment, Micros, BlockCount, GroupId}
use Rattle.units.specs.declared.blocks.Blocks.{Blocks}
use Rattle.buckets.specs.declared.holds.HeldAmount.{HeldAmount}
use Rattle.buckets.specs.declared.kind.Due.{Due}
use Rattle.buckets.specs.declared.purse.Charged.{Charged}
use Rattle.buckets.specs.declared.purse.PurseFault.{PurseFault}
use Rattle.buckets.specs.declared.purse.PurseFault.TheVariants.{Memory, NotCovered}
use Rattle.buckets.specs.Kinds.{due}
use Rattle.buckets.specs.Row.{BucketRow}
use Rattle.buckets.specs.Spend.{IsSound, held_rows, inserted}
use Rattle.buckets.specs.Holding.{holds_of, IsWithin, charged_rows, uncollected, covered_blocks}
use Rattle.buckets.specs.Holding.{rest_of_holds, settled_rows}

-- a bucket is added; at an error nothing has changed
pub record Adds {T E : Type 0} (b : BucketRow) (old new : List BucketRow) (result : Result T E)
    : Type 0 where
  pub ok : OnOk result (new ≡ inserted b old)
  pub err : OnErr result (new ≡ old)

-- what is due is held, where it isn't short
pub record HoldsDue (group : GroupId) (at : Moment) (d : Due) (IsShort : Type 0)
    (old new : List BucketRow) (result : Result (List HeldAmount) PurseFault) : Type 0 where
  pub rows : OnOk result (new ≡ held_rows group at d old)
  pub holds : IfOk result (λ h. h ≡ holds_of group at d old)
  pub within : IfOk result (λ h. IsWithin h new)
  pub not_covered : IsErrOf result NotCovered ↔ IsShort
  pub err : OnErr result (new ≡ old)

-- what is due is held, where it is covered
pub record IsHeld (group : GroupId) (at : Moment) (d : Due) (old new : List BucketRow)
    (given : List HeldAmount)
    : Type 0 where
  pub rows : new ≡ held_rows group at d old
  pub holds : given ≡ holds_of group at d old
  pub within : IsWithin given new

-- what is due is charged to holds, and what they don't reach to the eligible buckets
pub record IsCharged (group : GroupId) (at : Moment) (d : Due) (lent rest : List HeldAmount)
    (old new : List BucketRow) : Type 0 where
  pub rows : new ≡ charged_rows lent group at d old
  pub holds : rest ≡ rest_of_holds lent d old
  pub within : IsWithin rest new

-- it is charged; at an error, which is lack of memory, nothing has changed
pub record ChargesDue {T : Type 0} (group : GroupId) (at : Moment) (d : Due)
    (lent rest : List HeldAmount) (old new : List BucketRow) (result : Result T PurseFault)
    : Type 0 where
  pub sound : IsSound old
  pub charged : OnOk result (IsCharged group at d lent rest old new)
  pub memory : OnErr result (result ≡ Err Memory)
  pub err : OnErr result (new ≡ old)
  pub err_holds : OnErr result (rest ≡ lent)

-- an amount is charged, and it is told what of it is collected
pub record ChargesMoney (group : GroupId) (at : Moment) (amount : Micros)
    (lent rest : List HeldAmount)
    (old new : List BucketRow) (result : Result Charged PurseFault) : Type 0 where
  pub charges : ChargesDue group at (due amount 0) lent rest old new result
  pub uncollected : IfOk result (λ c. c.uncollected.0 ≡ uncollected lent group at amount old)
  pub collected : IfOk result (λ c. c.collected.0 + c.uncollected.0 ≡ amount)

-- blocks are charged, and it is told how many are covered
pub record ChargesBlocks (group : GroupId) (at : Moment) (blocks : BlockCount)
    (lent rest : List HeldAmount) (old new : List BucketRow) (result : Result Blocks PurseFault)
    : Type 0 where
  pub charges : ChargesDue group at (due 0 blocks) lent rest old new result
  pub covered : IfOk result (λ c. c.0 ≡ covered_blocks lent group at blocks old)

-- what is due is charged, and what is left of the holds is given up
pub record SettlesDue (holds : List HeldAmount) (group : GroupId) (at : Moment) (amount : Micros)
    (blocks : BlockCount) (old new : List BucketRow) (given : Charged) : Type 0 where
  pub sound : IsSound old
  pub rows : new ≡ settled_rows holds group at (due amount blocks) old
  pub uncollected : given.uncollected.0 ≡ uncollected holds group at amount old
  pub collected : given.collected.0 + given.uncollected.0 ≡ amount
