-- Covered blocks, price by price.
use Rattle.std.proofs.Common.{◌≡◌, ℕ, zero, suc, ◌+◌, ◌-◌, List, [], ◌∷◌, ◌++◌, refl, ap, sym}
use Rattle.std.proofs.Common.{◌∙◌, arith, length, drop}
use Rattle.std.proofs.lemmas.List.{length-append}
use Rattle.std.proofs.lemmas.List.Sums.{sum_by-append, sum_by-cons}
use Rattle.std.specs.Prelude.{sum_by}
use Rattle.tariffs.specs.declared.tiers.Tier.{Tier}
use Rattle.tariffs.specs.Prices.{block_price}
use Rattle.tariffs.specs.GroupPrices.{tiers_on}
use Rattle.units.specs.Blocks.{started}
use Rattle.rating.specs.Rated.{rated_amount, uncovered_amount, report_blocks, report_amount}
use Rattle.rating.specs.Rated.{block_prices, report_prices, CoversAt, CoversTheFirst}
use Rattle.rating.proofs.Sums.{rated_none, rated_cut}

abbrev total : List ℕ → ℕ
total prices = sum_by (λ price. price) prices

all_of : (n : ℕ) → n ≡ n - 0
all_of n = omega arith

less_one : (n m : ℕ) → n - m ≡ suc n - suc m
less_one n m = omega arith

-- what is dropped of two lists one after another
drop_of : (xs ys : List ℕ) (n : ℕ) → drop n (xs ++ ys) ≡ drop n xs ++ drop (n - length xs) ys
drop_of [] ys zero = ap (λ k. drop k ys) (all_of zero)
drop_of [] ys (suc n) = ap (λ k. drop k ys) (all_of (suc n))
drop_of (x ∷ xs) ys zero = ap (λ k. x ∷ xs ++ drop k ys) (none_of (length (x ∷ xs)))
  where
    none_of : (m : ℕ) → 0 ≡ 0 - m
    none_of m = omega arith
drop_of (x ∷ xs) ys (suc n) =
    drop_of xs ys n ∙ ap (λ k. drop n xs ++ drop k ys) (less_one n (length xs))

-- the first of some blocks, and then the others
rated_first : (ts : List Tier) (place n : ℕ) →
    rated_amount ts place (suc n) ≡ block_price ts (place + 1) + rated_amount ts (place + 1) n
unfolding rated_amount
rated_first ts place n =
    let one : rated_amount ts place 1 ≡ 0 + block_price ts (place + 1) = refl in
    let next : suc n ≡ 1 + n = omega arith in
    let all : rated_amount ts place (suc n) ≡ rated_amount ts place (1 + n) =
    ap (rated_amount ts place) next in
    omega (arith, all, rated_cut ts place 1 n, one)

prices_length : (ts : List Tier) (place n : ℕ) → n ≡ length (block_prices ts place n)
unfolding block_prices
prices_length ts place zero = refl
prices_length ts place (suc n) = ap suc (prices_length ts (place + 1) n)

prices_sum : (ts : List Tier) (place n : ℕ) →
    rated_amount ts place n ≡ total (block_prices ts place n)
unfolding block_prices
prices_sum ts place zero = rated_none ts place
prices_sum ts place (suc n) =
    let rest = block_prices ts (place + 1) n in
    omega (
      arith,
      rated_first ts place n,
      prices_sum ts (place + 1) n,
      sum_by-cons (λ (price : ℕ). price) (block_price ts (place + 1)) rest,
    )

uncovered_sum : (ts : List Tier) (place covered n : ℕ) →
    uncovered_amount ts place covered n ≡ total (drop covered (block_prices ts place n))
unfolding block_prices
uncovered_sum ts place zero n =
    let here : place + 0 ≡ place = omega arith in
    let all : n - 0 ≡ n = omega arith in
    rw (here, all) (prices_sum ts place n)
uncovered_sum ts place (suc covered) zero =
    let none : 0 - suc covered ≡ 0 = omega arith in
    ap (λ k. rated_amount ts (place + suc covered) k) none
    ∙ rated_none ts (place + suc covered)
uncovered_sum ts place (suc covered) (suc n) =
    let here : place + suc covered ≡ place + 1 + covered = omega arith in
    let left : suc n - suc covered ≡ n - covered = sym (less_one n covered) in
    (λ i. rated_amount ts (here i) (left i)) ∙ uncovered_sum ts (place + 1) covered n

-- rule: covered.covers-the-first
pub covers_the_first : CoversTheFirst
unfolding report_blocks report_amount report_prices
covers_the_first p used place covered [] =
    record { blocks = refl; amount = drop_none covered }
  where
    drop_none : (n : ℕ) → 0 ≡ total (drop n [])
    drop_none zero = refl
    drop_none (suc n) = refl
covers_the_first p used place covered (part ∷ parts) =
    let n = started used part.units.0 p.tariff.block in
    let ts = tiers_on p part.side in
    let here = block_prices ts place n in
    let rest = report_prices p (used + part.units.0) (place + n) parts in
    let more : CoversAt p (used + part.units.0) (place + n) (covered - n) parts =
    covers_the_first p (used + part.units.0) (place + n) (covered - n) parts in
    let left : covered - length here ≡ covered - n =
    ap (λ k. covered - k) (sym (prices_length ts place n)) in
    let cut : total (drop covered (here ++ rest))
    ≡ total (drop covered here) + total (drop (covered - n) rest) =
    ap total (drop_of here rest covered)
    ∙ sum_by-append (λ (price : ℕ). price) (drop covered here) (drop (covered - length here) rest)
    ∙ ap (λ k. total (drop covered here) + total (drop k rest)) left in
    record {
      blocks = omega (arith, more.blocks, prices_length ts place n, length-append here rest);
      amount = omega (arith, more.amount, uncovered_sum ts place covered n, cut);
    }
