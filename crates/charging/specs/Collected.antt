-- What was collected of an account, and what allowances covered of it, to date: by its charges, and
-- from its buckets (TS 32.296, account balance management function).
use Rattle.std.specs.Prelude.{sum_by}
use Rattle.units.specs.Words.{Moment, Seconds}
use Rattle.buckets.specs.Words.{BucketAmount}
use Rattle.buckets.specs.declared.kind.BucketKind.{BucketKind}
use Rattle.buckets.specs.declared.kind.BucketKind.TheVariants.{Money, Blocks}
use Rattle.buckets.specs.Share.{sum_in}
use Rattle.ledger.specs.declared.charge.ChargeRow.{ChargeRow}
use Rattle.ledger.specs.Ledger.{Ledger}
use Rattle.ledger.specs.Balance.{buckets_at}
use Rattle.ledger.specs.Charges.{charge_rows}

-- what a charge took of the buckets of a kind, in its unit: micro-units, or blocks
abbrev pub taken_of : BucketKind → ChargeRow → BucketAmount
taken_of Money c = c.collected.0
taken_of Blocks c = c.covered.0

-- by the charges of all reports and debits
-- rule: collected: what all charges collected is what all buckets of money show as charged, and
--   what they covered is what all allowances show
-- rule: statement-sums: what a statement shows as collected is what all charges collected, and as
--   covered what they covered
abbrev pub taken_to_date : BucketKind → Ledger → BucketAmount
taken_to_date kind ledger = sum_by (taken_of kind) (charge_rows ledger)

-- from all buckets of a kind, as they are at a moment
-- rule: collected
abbrev pub charged_to_date : BucketKind → (Moment → Seconds) → Moment → Ledger → BucketAmount
charged_to_date kind v t ledger = sum_in kind (λ x. x.charged) (buckets_at v t ledger)
