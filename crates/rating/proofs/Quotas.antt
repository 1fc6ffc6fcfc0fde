-- A report within a grant costs no more than what the grant holds.
use Rattle.std.proofs.Common.{◌≡◌, ℕ, zero, suc, ◌+◌, ◌-◌, ◌≤◌, max, List, [], ◌∷◌, ap}
use Rattle.std.proofs.Common.{◌∙◌, arith, inl, inr}
use Rattle.std.proofs.lemmas.Bool.{cases_lt}
use Rattle.units.specs.Blocks.{started}
use Rattle.tariffs.specs.Prices.{block_price}
use Rattle.tariffs.specs.declared.tiers.Tier.{Tier}
use Rattle.tariffs.specs.declared.group_prices.Side.{Side}
use Rattle.tariffs.specs.declared.group_prices.Side.TheVariants.{Before, After}
use Rattle.tariffs.specs.GroupPrices.{GroupPrices, tiers_on}
use Rattle.rating.specs.declared.report.Part.{Part}
use Rattle.rating.specs.Rated.{rated_amount, uncovered_amount, report_blocks, report_amount}
use Rattle.rating.specs.Granted.{dearer}
use Rattle.rating.specs.Quotas.{PaysWithin}
use Rattle.rating.proofs.Sums.{dearer_none, dearer_grows}

dearer_cut : (bs as' : List Tier) (place n m : ℕ) →
    dearer bs as' place (n + m) ≡ dearer bs as' place n + dearer bs as' (place + n) m
unfolding dearer
dearer_cut bs as' place n zero = let e : n + 0 ≡ n = omega arith in
    ap (dearer bs as' place) e ∙ omega arith
dearer_cut bs as' place n (suc m) =
    let e : n + suc m ≡ suc (n + m) = omega arith in
    let k : place + suc (n + m) ≡ place + n + suc m = omega arith in
    let price : max (block_price bs (place + suc (n + m))) (block_price as' (place + suc (n + m)))
    ≡ max (block_price bs (place + n + suc m)) (block_price as' (place + n + suc m)) =
    ap (λ x. max (block_price bs x) (block_price as' x)) k in
    ap (dearer bs as' place) e ∙ omega (arith, dearer_cut bs as' place n m, price)

before_most : (bs as' : List Tier) (place n : ℕ) → rated_amount bs place n ≤ dearer bs as' place n
unfolding rated_amount dearer
before_most bs as' place zero = omega arith
before_most bs as' place (suc n) = omega (arith, before_most bs as' place n)

after_most : (bs as' : List Tier) (place n : ℕ) → rated_amount as' place n ≤ dearer bs as' place n
unfolding rated_amount dearer
after_most bs as' place zero = omega arith
after_most bs as' place (suc n) = omega (arith, after_most bs as' place n)

side_most : (p : GroupPrices) (side : Side) (place n : ℕ) →
    rated_amount (tiers_on p side) place n ≤ dearer p.before p.after place n
side_most p Before place n = before_most p.before p.after place n
side_most p After place n = after_most p.before p.after place n

-- a report costs no more than the dearer prices of the blocks that nothing covers
report_most : (p : GroupPrices) (used place covered : ℕ) (parts : List Part) →
    report_amount p used place covered parts
    ≤ dearer p.before p.after (place + covered) (report_blocks p.tariff.block used parts - covered)
unfolding report_amount report_blocks
report_most p used place covered [] = omega arith
report_most p used place covered (part ∷ parts) =
    let n : ℕ = started used part.units.0 p.tariff.block in
    let r : ℕ = report_blocks p.tariff.block (used + part.units.0) parts in
    let here : uncovered_amount (tiers_on p part.side) place covered n
    ≤ dearer p.before p.after (place + covered) (n - covered) =
    side_most p part.side (place + covered) (n - covered) in
    let rest = report_most p (used + part.units.0) (place + n) (covered - n) parts in
    elim (cases_lt covered n) [
      | inl less ↦ (
          let from : place + n + (covered - n) ≡ place + covered + (n - covered) = omega arith in
          let many : r - (covered - n) ≡ r = omega arith in
          let all : n + r - covered ≡ (n - covered) + r = omega arith in
          let behind = rw (from, many) at rest in
          rw all
          (omega (
            arith,
            here,
            behind,
            dearer_cut p.before p.after (place + covered)
                (n - covered) r,
          )))
      | inr more ↦ (
          let from : place + n + (covered - n) ≡ place + covered = omega arith in
          let many : r - (covered - n) ≡ n + r - covered = omega arith in
          let none : n - covered ≡ 0 = omega arith in
          let nothing : dearer p.before p.after (place + covered) (n - covered) ≡ 0 =
          ap (dearer p.before p.after (place + covered)) none
          ∙ dearer_none p.before p.after (place + covered) in
          let behind = rw (from, many) at rest in
          omega (arith, here, nothing, behind))
    ]

-- rule: quota
pub pays_within : PaysWithin
pays_within p used place covered parts m n more within =
    let b : ℕ = report_blocks p.tariff.block used parts in
    let most = report_most p used place covered parts in
    elim (cases_lt covered b) [
      | inl less ↦ (
          let all : (covered - m) + (b - covered) ≡ b - m = omega arith in
          let from : place + m + (covered - m) ≡ place + covered = omega arith in
          let cut = rw (all, from) at
          (dearer_cut p.before p.after (place + m) (covered - m) (b - covered)) in
          let grown : (b - m) + (n - (b - m)) ≡ n = omega arith in
          let grows = rw grown at
          (dearer_grows p.before p.after (place + m) (b - m) (n - (b - m))) in
          omega (arith, most, cut, grows))
      | inr all ↦ (
          let none : b - covered ≡ 0 = omega arith in
          let nothing = rw (none, dearer_none p.before p.after (place + covered)) at most in
          omega (arith, nothing))
    ]
