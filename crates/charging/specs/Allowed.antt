-- Allowances before money: which blocks of a report or an event allowances cover.
-- Source: profile.
use Rattle.std.specs.Prelude.{◌≡◌, ◌≤◌, ◌<◌, List}
use Rattle.units.specs.Words.{Moment, UnitCount, BlockCount, GroupId}
use Rattle.identifiers.specs.Words.{SessionName}
use Rattle.units.specs.declared.blocks.UsedPart.{UsedPart}
use Rattle.shelves.specs.Shelves.{Shelf}
use Rattle.rating.specs.declared.report.Rated.{Rated}
use Rattle.buckets.specs.Spend.{allowance}
use Rattle.ledger.specs.Ledger.{Ledger}
use Rattle.ledger.specs.Pricing.{validity_of}
use Rattle.ledger.specs.Balance.{buckets_at}
use Rattle.ledger.specs.Settlement.{report_price, coverable}
use Rattle.ledger.specs.Debiting.{rest_price}

-- of the started blocks at most so many are covered, and a price is due only where all these are
-- rule: paid.covers-first: allowances come before money
pub record CoversFirst (price : Rated) (free : BlockCount) : Type 0 where
  pub started : price.covered.0 ≤ price.blocks
  pub most : price.covered.0 ≤ free
  pub all : 0 < price.amount.0 → price.covered.0 ≡ free

-- those of a report: what its reservation holds of allowances, and what the eligible ones have
-- rule: paid.covers-first
abbrev pub ReportsAreCovered : Type 0
ReportsAreCovered =
    (b : Shelf) (t : Moment) (s : SessionName) (g : GroupId) (parts : List UsedPart)
    (ledger : Ledger) →
    CoversFirst (report_price b t s g parts ledger) (coverable (validity_of b) t s g ledger)

-- those of an event: what the eligible ones have
-- rule: paid.covers-first
abbrev pub EventsAreCovered : Type 0
EventsAreCovered =
    (b : Shelf) (t : Moment) (g : GroupId) (units : UnitCount) (ledger : Ledger) →
    CoversFirst (rest_price b t g units ledger)
    (allowance g t (buckets_at (validity_of b) t ledger))
