-- No more blocks are covered than a reservation holds and the allowance has; so allowances give all
-- of them.
use Rattle.std.proofs.Common.{◌≡◌, ℕ, ◌+◌, ◌-◌, ◌≤◌, ◌<◌, List, Option, Some, None, arith}
use Rattle.std.proofs.Common.{inl, inr}
use Rattle.std.specs.Prelude.{unwrap_or}
use Rattle.std.proofs.lemmas.Bool.{cases_lt}
use Rattle.units.specs.declared.blocks.UsedPart.{UsedPart}
use Rattle.tariffs.specs.Tariffs.{GroupTariff, tiers_at}
use Rattle.shelves.specs.Shelves.{Shelf, tariff_in, number_at}
use Rattle.rating.specs.declared.grant.Periods.{Periods}
use Rattle.rating.specs.Rated.{report_blocks}
use Rattle.rating.specs.Granted.{dearer}
use Rattle.rating.proofs.Sums.{dearer_none}
use Rattle.rating.proofs.Quotas.{pays_within}
use Rattle.buckets.specs.declared.kind.BucketKind.TheVariants.{Money, Blocks}
use Rattle.buckets.specs.declared.kind.Due.{Due}
use Rattle.buckets.specs.declared.holds.HeldAmount.{HeldAmount}
use Rattle.buckets.specs.Row.{BucketRow}
use Rattle.buckets.specs.Share.{sum_in}
use Rattle.buckets.specs.Spend.{IsInOrder, allowance}
use Rattle.buckets.specs.Holding.{held_sum, paid, uncollected}
use Rattle.buckets.proofs.Paid.{sum_in-paid}
use Rattle.ledger.specs.declared.terms.Terms.{Terms}
use Rattle.ledger.specs.Ledger.{Ledger, used, counter, open_grant}
use Rattle.ledger.specs.Pricing.{cycle_at, terms_now, rated_with, rated_parts, prices_by}
use Rattle.ledger.specs.Pricing.{validity_of}
use Rattle.ledger.specs.Balance.{buckets_at, holds_at}
use Rattle.ledger.specs.Settlement.{report_price, coverable}
use Rattle.ledger.specs.Debiting.{untagged, rest_price}
use Rattle.charging.specs.Allowed.{CoversFirst, ReportsAreCovered, EventsAreCovered}

-- ---- what buckets pay of what is due, in each unit

pub money_paid : (holds : List HeldAmount) (g t : ℕ) (due : Due) (rows : List BucketRow) →
    IsInOrder rows →
    sum_in Money (paid holds g t due rows) rows + uncollected holds g t due.money rows
    ≡ due.money
money_paid holds g t due rows order = sum_in-paid Money holds g t due rows order

pub blocks_paid : (holds : List HeldAmount) (g t : ℕ) (due : Due) (rows : List BucketRow) →
    IsInOrder rows →
    due.blocks ≤ held_sum Blocks holds rows + allowance g t rows →
    sum_in Blocks (paid holds g t due rows) rows ≡ due.blocks
blocks_paid holds g t due rows order le =
    let all : sum_in Blocks (paid holds g t due rows) rows
    + (due.blocks - held_sum Blocks holds rows - allowance g t rows) ≡ due.blocks =
    sum_in-paid Blocks holds g t due rows order in
    omega (arith, all, le)

-- ---- the blocks of a report, and of an event

covers_most : (o : Option GroupTariff) (p : Periods) (used place covered : ℕ)
    (parts : List UsedPart) → (rated_with o p used place covered parts).covered.0 ≤ covered
covers_most None p used place covered parts = omega arith
covers_most (Some x) p used place covered parts = omega arith

pub report_covers : (b : Shelf) (t : ℕ) (s : List ℕ) (g : ℕ) (parts : List UsedPart)
    (ledger : Ledger) →
    (report_price b t s g parts ledger).covered.0
    ≤ held_sum Blocks (holds_at (validity_of b) t s g ledger) (buckets_at (validity_of b) t ledger)
    + allowance g t (buckets_at (validity_of b) t ledger)
report_covers b t s g parts ledger =
    let x : Terms = unwrap_or (open_grant s g ledger) (terms_now b t) in
    covers_most (tariff_in b x.book g) x.periods (used s g ledger)
    (counter (cycle_at b g) g (cycle_at b g t) ledger) (coverable (validity_of b) t s g ledger)
    parts

-- no more are covered than are started
covers_started : (o : Option GroupTariff) (p : Periods) (used place covered : ℕ)
    (parts : List UsedPart) →
    (rated_with o p used place covered parts).covered.0
    ≤ (rated_with o p used place covered parts).blocks
covers_started None p used place covered parts = omega arith
covers_started (Some x) p used place covered parts = omega arith

-- where money is due, all of them are covered
covers_all : (o : Option GroupTariff) (p : Periods) (used place covered : ℕ)
    (parts : List UsedPart) → 0 < (rated_with o p used place covered parts).amount.0 →
    covered ≤ (rated_with o p used place covered parts).covered.0
covers_all None p used place covered parts less = omega (arith, less)
covers_all (Some x) p used place covered parts less =
    let blocks : ℕ = report_blocks x.block used (rated_parts parts) in
    elim (cases_lt covered blocks) [
      | inl few ↦ omega (arith, few)
      | inr all ↦ (
          let most : (rated_with (Some x) p used place covered parts).amount.0
          ≤ dearer (tiers_at x p.before.0) (tiers_at x p.after.0) (place + covered) 0 =
          pays_within (prices_by x p) used place covered (rated_parts parts) covered 0
          (omega arith) (omega (arith, all)) in
          omega (
            arith,
            less,
            most,
            dearer_none (tiers_at x p.before.0) (tiers_at x p.after.0) (place + covered),
          ))
    ]

-- rule: uncollected
pub report_covers_all : (b : Shelf) (t : ℕ) (s : List ℕ) (g : ℕ) (parts : List UsedPart)
    (ledger : Ledger) → 0 < (report_price b t s g parts ledger).amount.0 →
    held_sum Blocks (holds_at (validity_of b) t s g ledger) (buckets_at (validity_of b) t ledger)
    + allowance g t (buckets_at (validity_of b) t ledger)
    ≤ (report_price b t s g parts ledger).covered.0
report_covers_all b t s g parts ledger less =
    let x : Terms = unwrap_or (open_grant s g ledger) (terms_now b t) in
    covers_all (tariff_in b x.book g) x.periods (used s g ledger)
    (counter (cycle_at b g) g (cycle_at b g t) ledger) (coverable (validity_of b) t s g ledger)
    parts less

pub event_covers : (b : Shelf) (t g units : ℕ) (ledger : Ledger) →
    (rest_price b t g units ledger).covered.0
    ≤ allowance g t (buckets_at (validity_of b) t ledger)
event_covers b t g units ledger =
    covers_most (tariff_in b (number_at b t) g) (terms_now b t).periods 0
    (counter (cycle_at b g) g (cycle_at b g t) ledger)
    (allowance g t (buckets_at (validity_of b) t ledger)) (untagged units)

-- ---- allowances come first

-- rule: paid.covers-first
covers_first : (o : Option GroupTariff) (p : Periods) (used place free : ℕ)
    (parts : List UsedPart) → CoversFirst (rated_with o p used place free parts) free
covers_first o p used place free parts = record {
  started = covers_started o p used place free parts;
  most = covers_most o p used place free parts;
  all = λ less. omega (
    arith,
    covers_most o p used place free parts,
    covers_all o p used place free parts less,
  );
}

pub report_covers_first : ReportsAreCovered
report_covers_first b t s g parts ledger =
    let x : Terms = unwrap_or (open_grant s g ledger) (terms_now b t) in
    covers_first (tariff_in b x.book g) x.periods (used s g ledger)
    (counter (cycle_at b g) g (cycle_at b g t) ledger) (coverable (validity_of b) t s g ledger)
    parts

pub event_covers_first : EventsAreCovered
event_covers_first b t g units ledger =
    covers_first (tariff_in b (number_at b t) g) (terms_now b t).periods 0
    (counter (cycle_at b g) g (cycle_at b g t) ledger)
    (allowance g t (buckets_at (validity_of b) t ledger)) (untagged units)
