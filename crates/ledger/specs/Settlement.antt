-- Settlement: a report's rated amount is charged to its reservation's holds and then to what is
-- eligible; then the reservation ends (RFC 8506 section 5.3; TS 32.299, session charging with unit
-- reservation).
use Rattle.std.specs.Prelude.{ℕ, ◌+◌, Bool, false, ◌||◌, nat_lt, List, [], ◌∷◌, ◌++◌, Option}
use Rattle.std.specs.Prelude.{sum_by, unwrap_or}
use Rattle.units.specs.Words.{greatest_number, most_used, most_counted}
use Rattle.units.specs.Words.{Moment, Seconds, Micros, UnitCount, BlockCount, Place, GroupId}
use Rattle.identifiers.specs.Words.{SessionName}
use Rattle.ledger.specs.Words.{ChargeNumber}
use Rattle.units.specs.declared.blocks.UsedPart.{UsedPart}
use Rattle.shelves.specs.Shelves.{Shelf, tariff_in}
use Rattle.ledger.specs.declared.terms.Terms.{Terms}
use Rattle.rating.specs.declared.report.Rated.{Rated}
use Rattle.buckets.specs.declared.holds.HeldAmount.{HeldAmount}
use Rattle.buckets.specs.Row.{BucketRow}
use Rattle.buckets.specs.Share.{parts}
use Rattle.buckets.specs.declared.kind.Due.{Due}
use Rattle.buckets.specs.Kinds.{due}
use Rattle.buckets.specs.declared.kind.BucketKind.TheVariants.{Blocks}
use Rattle.buckets.specs.Spend.{allowance}
use Rattle.buckets.specs.Holding.{held_sum, paid, uncollected}
use Rattle.ledger.specs.Ledger.{Ledger, UseOf, used, open_grant, next_charge}
use Rattle.ledger.specs.Ledger.Fact.{Use, Charge, End}
use Rattle.ledger.specs.Pricing.{terms_now, rated_with, validity_of, place_at}
use Rattle.ledger.specs.Balance.{buckets_at}
use Rattle.ledger.specs.Balance.{holds_at}

-- the units of a report, all its parts together
abbrev pub reported : List UsedPart → UnitCount
reported used_parts = sum_by (λ p. p.units.0) used_parts

-- what a report costs by the terms of a grant: by the book of their number, in their periods; so
-- many blocks may be covered
-- rule: report-book
abbrev pub price_by : Shelf → GroupId → Terms → UnitCount → Place → BlockCount → List UsedPart →
    Rated
price_by b group x used place covered used_parts =
    rated_with (tariff_in b x.book group) x.periods used place covered used_parts

-- what a report costs: by the terms of its grant, or without one all by the book and the period at
-- its moment
-- rule: report-book, report-period
abbrev pub price_of : Shelf → Moment → GroupId → Option Terms → UnitCount → Place → BlockCount →
    List UsedPart → Rated
price_of b t group granted used place covered used_parts =
    price_by b group (unwrap_or granted (terms_now b t)) used place covered used_parts

-- what is charged for a report: the price of its blocks that nothing covers, and those covered
-- rule: covered
abbrev pub due_of : Rated → Due
due_of r = due r.amount.0 r.covered.0

-- rule: shares.taken-of
abbrev pub charge_facts : Moment → List HeldAmount → Ledger
charge_facts t [] = []
charge_facts t (h ∷ hs) = record { at = t; fact = Charge h.bucket h.amount } ∷ charge_facts t hs

-- a use of units that start blocks, for which this is due and that is left uncollected
abbrev pub use_of : SessionName → GroupId → UnitCount → BlockCount → Due → Micros → UseOf
use_of session group units blocks due uncollected = record {
  session = session;
  group = group;
  units = units;
  blocks = blocks;
  covered = due.blocks;
  rated = due.money;
  uncollected = uncollected;
}

-- a stored number would pass its limit: the session's use, the group's counter, or the charge row's
-- number
-- rule: stored-limits: limits of stored numbers
abbrev pub passes : UnitCount → UnitCount → Place → BlockCount → ChargeNumber → Bool
passes before units count blocks charge =
    nat_lt most_used (before + units)
    || (nat_lt most_counted (count + blocks) || nat_lt greatest_number charge)

-- of a session's group, as of a moment by these validities
module _ (v : Moment → Seconds) (t : Moment) (session : SessionName) (group : GroupId) where
  -- the blocks that may cover a report: those that its reservation holds, and the allowance
  -- rule: covered
  abbrev pub coverable : Ledger → BlockCount
  coverable ledger =
      held_sum Blocks (holds_at v t session group ledger) (buckets_at v t ledger)
      + allowance group t (buckets_at v t ledger)

  -- the ledger with a settlement
  abbrev pub settled : UnitCount → BlockCount → Due → Ledger → Ledger
  settled units blocks due ledger =
      record { at = t; fact = End session group }
      ∷ record {
        at = t;
        fact = Use (use_of session group units blocks due
            (uncollected holds group t due.money rows));
      }
      ∷ charge_facts t (parts (paid holds group t due rows) rows) ++ ledger
    where
      rows : List BucketRow
      rows = buckets_at v t ledger

      holds : List HeldAmount
      holds = holds_at v t session group ledger

-- of a session's group at a moment
module _ (b : Shelf) (t : Moment) (session : SessionName) (group : GroupId) where
  -- the price of a report of a live session: its grant is its reservation, its use goes on after
  -- the session's use so far, and its blocks are counted from the group's counter in the cycle on
  -- rule: settle-order
  abbrev pub report_price : List UsedPart → Ledger → Rated
  report_price used_parts ledger =
      price_of b t group (open_grant session group ledger) (used session group ledger)
      (place_at b t group ledger) (coverable (validity_of b) t session group ledger) used_parts

  -- the ledger with a reported group's settlement; a group that is named without a report only ends
  -- its reservation
  -- rule: settle-order: how a report is settled
  -- rule: use-counts: the use and the counter after a report
  abbrev pub settled_by : List UsedPart → Ledger → Ledger
  settled_by [] ledger = record { at = t; fact = End session group } ∷ ledger
  settled_by (p ∷ ps) ledger =
      settled (validity_of b) t session group (reported (p ∷ ps)) price.blocks (due_of price) ledger
    where
      price : Rated
      price = report_price (p ∷ ps) ledger

  -- what of a report's price neither its holds nor any eligible bucket pays
  -- rule: settle-order
  abbrev pub missing : List UsedPart → Ledger → Micros
  missing used_parts ledger =
      uncollected (holds_at (validity_of b) t session group ledger) group t
      (report_price used_parts ledger).amount.0 (buckets_at (validity_of b) t ledger)

  -- a settlement would pass the limit of a stored number
  -- rule: stored-limits
  abbrev pub passes_limit : List UsedPart → Ledger → Bool
  passes_limit [] ledger = false
  passes_limit (p ∷ ps) ledger =
      passes (used session group ledger) (reported (p ∷ ps)) (place_at b t group ledger)
      (report_price (p ∷ ps) ledger).blocks (next_charge ledger)

-- the same, where so many charges are numbered before the report's own
-- rule: stored-limits
abbrev pub passes_after : ℕ → Shelf → Moment → SessionName → GroupId → List UsedPart → Ledger → Bool
passes_after charges b t session group [] ledger = false
passes_after charges b t session group (p ∷ ps) ledger =
    passes (used session group ledger) (reported (p ∷ ps))
    (place_at b t group ledger)
    (report_price b t session group (p ∷ ps) ledger).blocks
    (next_charge ledger + charges)

-- the charges of a report: one where it has parts
abbrev pub charge_count : List UsedPart → ℕ
charge_count [] = 0
charge_count (p ∷ ps) = 1
