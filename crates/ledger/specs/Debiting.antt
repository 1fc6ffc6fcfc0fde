-- A debit: an event's units are priced and charged at once, with no reservation (TS 32.299,
-- immediate event charging; RFC 8506 section 6.3).
use Rattle.std.specs.Prelude.{Bool, nat_le, List, [], ◌∷◌, ◌++◌, None}
use Rattle.units.specs.Words.{Moment, Seconds, UnitCount, BlockCount, GroupId}
use Rattle.identifiers.specs.Words.{SessionName}
use Rattle.units.specs.declared.blocks.UsedPart.{UsedPart}
use Rattle.shelves.specs.Shelves.{Shelf}
use Rattle.rating.specs.declared.report.Rated.{Rated}
use Rattle.buckets.specs.Row.{BucketRow}
use Rattle.buckets.specs.Share.{parts}
use Rattle.buckets.specs.declared.kind.Due.{Due}
use Rattle.buckets.specs.Kinds.{due}
use Rattle.buckets.specs.Spend.{funds, allowance}
use Rattle.buckets.specs.Holding.{paid}
use Rattle.ledger.specs.Ledger.{Ledger, used, next_charge}
use Rattle.ledger.specs.Ledger.Fact.{Use}
use Rattle.ledger.specs.Pricing.{place_at, validity_of}
use Rattle.ledger.specs.Balance.{buckets_at}
use Rattle.ledger.specs.Settlement.{price_of, due_of, charge_facts, use_of, passes}

abbrev pub untagged : UnitCount → List UsedPart
untagged units = record { units = record { 0 = units }; change = None } ∷ []

-- of a group at a moment
module _ (b : Shelf) (t : Moment) (group : GroupId) where
  -- what an event's units cost, where so many blocks are covered: they start blocks from no use on,
  -- at the period of the moment, from the group's counter in the cycle on
  -- rule: event-price: the price of an event, and the rest of it
  -- rule: debit
  abbrev pub event_price : BlockCount → UnitCount → Ledger → Rated
  event_price covered units ledger =
      price_of b t group None 0 (place_at b t group ledger) covered (untagged units)

  -- what they cost beside the allowance
  abbrev pub rest_price : UnitCount → Ledger → Rated
  rest_price units ledger =
      event_price (allowance group t (buckets_at (validity_of b) t ledger)) units ledger

  -- the eligible buckets have this price
  -- rule: debit, event-price
  abbrev pub is_covered : UnitCount → Ledger → Bool
  is_covered units ledger = nat_le (rest_price units ledger).amount.0
      (funds group t (buckets_at (validity_of b) t ledger))

abbrev pub charged_use : (Moment → Seconds) → Moment → SessionName → GroupId → UnitCount →
    BlockCount → Due → Ledger → Ledger
charged_use v t session group units blocks due ledger =
    record { at = t; fact = Use (use_of session group units blocks due 0) }
    ∷ charge_facts t (parts (paid [] group t due rows) rows) ++ ledger
  where
    rows : List BucketRow
    rows = buckets_at v t ledger

module _ (b : Shelf) (t : Moment) (session : SessionName) (group : GroupId) (units : UnitCount)
  where
    -- the ledger with a debit that is covered
    -- rule: debit
    abbrev pub debited : Ledger → Ledger
    debited ledger = charged_use (validity_of b) t session group units price.blocks (due_of price)
        ledger
      where
        price : Rated
        price = rest_price b t group units ledger

    -- a stored number would pass its limit
    abbrev pub debit_passes : Ledger → Bool
    debit_passes ledger = passes (used session group ledger) units (place_at b t group ledger)
        (rest_price b t group units ledger).blocks (next_charge ledger)
