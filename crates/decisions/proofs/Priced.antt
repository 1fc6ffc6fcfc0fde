-- The price of an event fits 64 bits.
use Rattle.std.specs.Prelude.{option_and_then}
use Rattle.tariffs.specs.Books.{Book}
use Rattle.std.proofs.Common.{◌-◌}
use Rattle.rating.specs.Rated.{uncovered_amount}
use Rattle.std.proofs.Common.{◌≡◌, ℕ, zero, suc, ◌+◌, ◌*◌, ◌≤◌, ◌<◌, ◌^◌, List, [], ◌∷◌, ap, ◌∙◌}
use Rattle.std.proofs.Common.{subst, sym, arith, add-zero, zero-add, Option, Some}
use Rattle.std.specs.Prelude.{slice_index_or}
use Rattle.std.specs.List.{AllByRecursion}
use Rattle.units.specs.Blocks.{started}
use Rattle.tariffs.specs.declared.tiers.Tier.{Tier}
use Rattle.tariffs.specs.Prices.{AreTiers, ArePriced}
use Rattle.tariffs.specs.Tariffs.{GroupTariff, IsTariff}
use Rattle.tariffs.specs.declared.group_prices.Side.{Side}
use Rattle.tariffs.specs.declared.group_prices.Side.TheVariants.{Before, After}
use Rattle.tariffs.specs.GroupPrices.{tiers_on}
use Rattle.rating.specs.declared.report.Part.{Part}
use Rattle.rating.specs.Rated.{report_blocks, report_amount}
use Rattle.rating.proofs.RunFacts.{rated_bound}
use Rattle.rating.specs.declared.grant.Periods.{Periods}
use Rattle.shelves.proofs.Begun.{last_begun_holds}
use Rattle.shelves.specs.Shelves.{Shelf, IsShelf, book_at, number_at, tariff_in}
use Rattle.ledger.specs.Pricing.{tariff_of, prices_by, rated_with, rated_parts}
use Rattle.ledger.specs.Debiting.{untagged}
use Rattle.reserving.specs.Changes.{event_price_in}
use Rattle.reserving.specs.Rows.{AccountRows}

priced_at : (lists : List (List Tier)) (i : ℕ) → AllByRecursion AreTiers lists →
    ArePriced (slice_index_or lists i [])
priced_at [] i h = tt
priced_at (x ∷ xs) zero h = h.0.priced
priced_at (x ∷ xs) (suc i) h = priced_at xs i h.1

priced_on : (t : GroupTariff) (p : Periods) (side : Side) → IsTariff t →
    ArePriced (tiers_on (prices_by t p) side)
priced_on t p Before is = priced_at t.prices p.before.0 is.tiers
priced_on t p After is = priced_at t.prices p.after.0 is.tiers

-- no block costs more than 10^9
pub report_bound : (t : GroupTariff) (p : Periods) (used place covered : ℕ) (parts : List Part) →
    IsTariff t →
    report_amount (prices_by t p) used place covered parts
    ≤ report_blocks t.block used parts * 1_000_000_000
unfolding report_blocks report_amount
report_bound t p used place covered [] is = omega arith
report_bound t p used place covered (part ∷ parts) is =
    let n : ℕ = started used part.units.0 t.block in
    let here : uncovered_amount (tiers_on (prices_by t p) part.side) place covered n
    ≤ (n - covered) * 1_000_000_000 =
    rated_bound (tiers_on (prices_by t p) part.side) (place + covered) (n - covered)
    (priced_on t p part.side is) in
    omega (
      arith,
      here,
      report_bound t p (used + part.units.0) (place + n) (covered - n) parts is,
    )

-- an event's units start the blocks of one part
event_blocks : (block units : ℕ) →
    report_blocks block 0 (rated_parts (untagged units)) ≡ started 0 units block
unfolding report_blocks
event_blocks block units = ap (λ n. started 0 n block + 0) (zero-add units)
    ∙ add-zero (started 0 units block)

rated_fits : (tariff : GroupTariff) (p : Periods) (place units : ℕ) → IsTariff tariff →
    started 0 units tariff.block ≤ 1_000_000_000 →
    (rated_with (Some tariff) p 0 place 0 (untagged units)).amount.0 < 2 ^ 64
rated_fits tariff p place units is few =
    let bound : report_amount (prices_by tariff p) 0 place 0 (rated_parts (untagged units)) ≤
    report_blocks tariff.block 0 (rated_parts (untagged units)) * 1_000_000_000 =
    report_bound tariff p 0 place 0 (rated_parts (untagged units)) is in
    omega (arith, bound, few, event_blocks tariff.block units)

-- the tariff of the number at a moment is that of the book at it
numbered : (s : Shelf) (t g : ℕ) → IsShelf s →
    tariff_in s (number_at s t) g ≡ tariff_of (book_at s t) g
numbered s t g is =
    ap (λ (o : Option Book). option_and_then (λ b. tariff_of b g) o) (last_begun_holds s t is).book

-- the price of an event of no more than 10^9 blocks
pub price_fits : (a : AccountRows) (tariff : GroupTariff) (t g units : ℕ) → IsShelf a.shelf →
    Some tariff ≡ tariff_of (book_at a.shelf t) g → IsTariff tariff →
    started 0 units tariff.block ≤ 1_000_000_000 → (event_price_in g 0 units t a).amount.0 < 2 ^ 64
price_fits a tariff t g units shelf known is few =
    at (tariff_in a.shelf (number_at a.shelf t) g) (known ∙ sym (numbered a.shelf t g shelf)) _ _
  where
    at : (o : Option GroupTariff) → Some tariff ≡ o → (p : Periods) (place : ℕ) →
        (rated_with o p 0 place 0 (untagged units)).amount.0 < 2 ^ 64
    at o e p place = subst (λ x. (rated_with x p 0 place 0 (untagged units)).amount.0 < 2 ^ 64) e
        (rated_fits tariff p place units is few)
