-- An account's balance: its buckets at a moment, by number.
-- Source: TS 32.296, account balance management function; the order by number: profile.
use Rattle.std.specs.Prelude.{List, [], ◌∷◌, map, nat_lt, if◌then◌else◌}
use Rattle.std.specs.List.Sorted.{IsNonDecreasingBy, IsPermutation}
use Rattle.units.specs.Words.{Moment}
use Rattle.identifiers.specs.Words.{AccountName}
use Rattle.buckets.specs.Row.{BucketRow}
use Rattle.buckets.specs.declared.kind.BucketKind.{BucketKind}
use Rattle.buckets.specs.declared.kind.BucketKind.TheVariants as kind
use Rattle.commands.specs.declared.balance.AccountBalance.{AccountBalance}
use Rattle.commands.specs.declared.balance.BucketBalance.{BucketBalance}
use Rattle.commands.specs.declared.balance.BucketUnit.{BucketUnit}
use Rattle.commands.specs.declared.balance.BucketUnit.TheVariants.{MicroUnits, Blocks}
use Rattle.shelves.specs.Shelves.{Shelf}
use Rattle.ledger.specs.Ledger.{Ledger, is_barred}
use Rattle.ledger.specs.Balance.{buckets_at}
use Rattle.ledger.specs.Pricing.{validity_of}

-- a bucket is before the first of a greater number
abbrev pub numbered : BucketRow → List BucketRow → List BucketRow
numbered b [] = b ∷ []
numbered b (x ∷ xs) = if nat_lt b.number x.number then b ∷ x ∷ xs else x ∷ numbered b xs

-- rule: balance: balance
abbrev pub by_number : List BucketRow → List BucketRow
by_number [] = []
by_number (b ∷ bs) = numbered b (by_number bs)

-- what the amounts of a bucket of a kind count
-- rule: balance
abbrev pub unit_of : BucketKind → BucketUnit
unit_of kind.Money = MicroUnits
unit_of kind.Blocks = Blocks

-- a bucket as it is listed
abbrev pub bucket_balance : BucketRow → BucketBalance
bucket_balance b = record {
  number = b.number;
  from = b.from;
  until = b.until;
  scope = b.scope;
  unit = unit_of b.kind;
  credited = b.credited;
  available = b.available;
  reserved = b.reserved;
  charged = b.charged;
  expired = b.expired;
}

-- the balance at a moment of the account of this number, by its ledger
-- rule: balance
abbrev pub account_balance : Shelf → AccountName → Moment → Ledger → AccountBalance
account_balance b n t ledger = record {
  account = n;
  barred = is_barred ledger;
  buckets = map bucket_balance (by_number (buckets_at (validity_of b) t ledger));
  moment = t;
}

-- the same buckets, whose numbers don't fall
pub record AreByNumber (buckets told : List BucketRow) : Type 0 where
  pub same : IsPermutation buckets told
  pub order : IsNonDecreasingBy (λ b. b.number) told
