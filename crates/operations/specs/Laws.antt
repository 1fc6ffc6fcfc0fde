-- What a statement shows of an account's charges.
-- Source: profile.
use Rattle.std.specs.Prelude.{◌≡◌, List}
use Rattle.units.specs.Words.{Moment}
use Rattle.identifiers.specs.Words.{AccountName}
use Rattle.buckets.specs.Share.{sum_in}
use Rattle.buckets.specs.declared.kind.BucketKind.{BucketKind}
use Rattle.shelves.specs.Shelves.{Shelf}
use Rattle.ledger.specs.Balance.{buckets_at}
use Rattle.ledger.specs.Pricing.{validity_of}
use Rattle.charging.specs.Accepted.{Accepted}
use Rattle.charging.specs.Balances.{by_number}
use Rattle.charging.specs.Collected.{taken_to_date}
use Rattle.charging.specs.Served.{history}

-- its buckets of a kind show as charged what all charges of the account took of them
abbrev pub StatementShowsCharged : BucketKind → Type 0
StatementShowsCharged kind = (b : Shelf) (a : AccountName) (list : List Accepted) (t : Moment) →
    sum_in kind (λ x. x.charged)
    (by_number (buckets_at (validity_of b) t (history b a list).ledger))
    ≡ taken_to_date kind (history b a list).ledger
