-- A balance lists each bucket of an account once, in the order of their numbers.
-- Source: TS 32.296, account balance management function; the order: profile.
use Rattle.std.specs.Prelude.{◌≡◌, ◌<◌, List, [], ◌∷◌}
use Rattle.std.specs.List.{AllByRecursion}
use Rattle.units.specs.Words.{Moment}
use Rattle.identifiers.specs.Words.{AccountName}
use Rattle.buckets.specs.Words.{BucketNumber}
use Rattle.buckets.specs.Row.{BucketRow}
use Rattle.shelves.specs.Shelves.{Shelf}
use Rattle.ledger.specs.Balance.{buckets_at}
use Rattle.reserving.specs.Left.{bucket_in}
use Rattle.ledger.specs.Pricing.{validity_of}
use Rattle.charging.specs.Accepted.{Accepted}
use Rattle.charging.specs.Balances.{by_number}
use Rattle.charging.specs.Served.{history}

-- each number is below all that follow
abbrev pub AreRising : List BucketRow → Type 0
AreRising [] = Unit {0}
AreRising (b ∷ bs) = AllByRecursion (λ (x : BucketRow). b.number < x.number) bs × AreRising bs

-- under each number the bucket is listed that has it, and numbers rise
-- rule: balance.told-by-number: a balance shows each bucket once, in the order of their numbers
pub record AreToldByNumber (buckets told : List BucketRow) : Type 0 where
  pub each : (n : BucketNumber) → bucket_in n told ≡ bucket_in n buckets
  pub order : AreRising told

-- so are the buckets of an account at any moment
-- rule: balance.told-by-number
abbrev pub BalancesAreByNumber : Type 0
BalancesAreByNumber =
    (b : Shelf) (a : AccountName) (list : List Accepted) (t : Moment) →
    AreToldByNumber (buckets_at (validity_of b) t (history b a list).ledger)
    (by_number (buckets_at (validity_of b) t (history b a list).ledger))
