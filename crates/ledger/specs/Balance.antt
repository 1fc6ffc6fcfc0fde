-- The balance: each bucket at a moment, as sums over the ledger.
-- Source: TS 32.296, account balance management function; the ledger: profile.
use Rattle.std.specs.Prelude.{◌-◌, nat_lt, if◌then◌else◌, List, [], ◌∷◌, map, Option, Some, None}
use Rattle.units.specs.Words.{Moment, Seconds, GroupId}
use Rattle.buckets.specs.Words.{BucketAmount}
use Rattle.buckets.specs.Row.{BucketRow, new_row}
use Rattle.buckets.specs.Spend.{inserted}
use Rattle.ledger.specs.Ledger.{Fact, Ledger, CreditOf, counts, charged, held, is_live, only}
use Rattle.identifiers.specs.Words.{SessionName}
use Rattle.buckets.specs.declared.holds.HeldAmount.{HeldAmount}
use Rattle.buckets.specs.Share.{parts}

-- the buckets as they were credited, by end and then by number
abbrev pub with_credit : Option CreditOf → List BucketRow → List BucketRow
with_credit None rows = rows
with_credit (Some c) rows =
    inserted (new_row c.kind c.number c.from c.until c.scope c.amount) rows

abbrev pub credited_by : Fact → List BucketRow → List BucketRow
credited_by f rows = with_credit (counts f).credit rows

abbrev pub credits : Ledger → List BucketRow
credits [] = []
credits (d ∷ older) = credited_by d.fact (credits older)

-- a bucket with what is charged and held of it; the rest is available, from its end on expired
abbrev pub balance_of : Moment → BucketRow → BucketAmount → BucketAmount → BucketRow
balance_of t c charged held = record c {
  available = (if nat_lt t c.until then c.credited - charged - held else 0);
  reserved = held;
  charged = charged;
  expired = (if nat_lt t c.until then 0 else c.credited - charged - held);
}

-- a bucket's position at a moment: what live sessions' reservations hold is reserved
-- rule: bucket-end.bucket-at: a bucket's position at a moment
abbrev pub bucket_at : (Moment → Seconds) → Moment → Ledger → BucketRow → BucketRow
bucket_at v t ledger c =
    balance_of t c (charged c.number ledger) (held (λ s g. is_live v t ledger s) c.number ledger)

abbrev pub buckets_at : (Moment → Seconds) → Moment → Ledger → List BucketRow
buckets_at v t ledger = map (bucket_at v t ledger) (credits ledger)

-- what a reservation holds, bucket by bucket
abbrev pub holds_at : (Moment → Seconds) → Moment → SessionName → GroupId → Ledger → List HeldAmount
holds_at v t session group ledger =
    parts (λ b. held (only session group) b.number ledger) (buckets_at v t ledger)
