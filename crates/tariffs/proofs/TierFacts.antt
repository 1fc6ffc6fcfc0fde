-- Tiers of a period.
use Rattle.std.proofs.Common.{◌≡◌, ◌≢◌, ℕ, ◌+◌, ◌-◌, ◌<◌, ◌≤◌, ◌==◌, Bool, true, false, List, []}
use Rattle.std.proofs.Common.{◌∷◌, ◌++◌, length, get_or, zero, suc, Option, Some, None, refl, arith}
use Rattle.std.proofs.Common.{length-append, slice_get}
use Rattle.std.specs.List.{AllByRecursion}
use Rattle.std.proofs.lemmas.Bool.Decides.{nat_tests}
use Rattle.tariffs.specs.declared.tiers.Tier.{Tier}
use Rattle.tariffs.specs.Prices.{AreTiers, ArePriced, IsOpen, IsRisingFrom, IsBoundAfter}
use Rattle.tariffs.specs.PriceFields.{last_bound}

-- the tiers at a place of the list are priced, and those past its end
pub priced_at : (prices : List (List Tier)) (i : ℕ) → AllByRecursion AreTiers prices →
    ArePriced (get_or prices i [])
priced_at [] i all = tt
priced_at (tiers ∷ prices) zero all = all.0.priced
priced_at (tiers ∷ prices) (suc i) all = priced_at prices i all.1

priced_more : (tiers : List Tier) (tier : Tier) → ArePriced tiers → tier.price ≤ 1_000_000_000 →
    ArePriced (tiers ++ tier ∷ [])
priced_more [] tier all one = (one, tt)
priced_more (t ∷ tiers) tier all one = (all.0, priced_more tiers tier all.1 one)

get_last : (tiers : List Tier) (tier : Tier) →
    slice_get (tiers ++ tier ∷ []) (length tiers) ≡ Some tier
get_last [] tier = refl
get_last (t ∷ tiers) tier = get_last tiers tier

-- the last of some tiers and one more
last_bound-push : (tiers : List Tier) (tier : Tier) (bound : ℕ) → tier.upto ≡ Some bound →
    last_bound (tiers ++ tier ∷ []) ≡ bound
last_bound-push tiers tier bound is =
    let l : length (tiers ++ tier ∷ []) - 1 ≡ length tiers =
    omega (arith, length-append tiers (tier ∷ [])) in
    rw (l, get_last tiers tier, is) refl

-- tiers that all have bounds, rising from `above` to `top`
abbrev pub RisesTo : ℕ → List Tier → ℕ → Type 0
RisesTo above [] top = above ≡ top
RisesTo above (tier ∷ tiers) top =
    (bound : ℕ) ×
    ((tier.upto ≡ Some bound) × (above < bound) × (bound ≤ 4_000_000_000_000_000_000) ×
    RisesTo bound tiers top)

rises_more : (above : ℕ) (tiers : List Tier) (top : ℕ) (tier : Tier) (bound : ℕ) →
    RisesTo above tiers top → tier.upto ≡ Some bound → top < bound →
    bound ≤ 4_000_000_000_000_000_000 → RisesTo above (tiers ++ tier ∷ []) bound
rises_more above [] top tier bound rises is lt le =
    (bound, (is, (let lower : above < bound = omega (arith, rises) in lower), le, refl))
rises_more above (t ∷ tiers) top tier bound rises is lt le = (
  rises.0,
  (rises.1.0, rises.1.1, rises.1.2, rises_more rises.0 tiers top tier bound rises.1.3 is lt le),
)

-- with an open tier they are whole
open_after : (above : ℕ) (tiers : List Tier) (top : ℕ) (tier : Tier) → RisesTo above tiers top →
    tier.upto ≡ None → IsOpen (tiers ++ tier ∷ [])
open_after above [] top tier rises is = is
open_after above (t ∷ []) top tier rises is = is
open_after above (t ∷ u ∷ tiers) top tier rises is =
    open_after rises.0 (u ∷ tiers) top tier rises.1.3 is

rising_after : (above : ℕ) (tiers : List Tier) (top : ℕ) (tier : Tier) → RisesTo above tiers top →
    IsRisingFrom above (tiers ++ tier ∷ [])
rising_after above [] top tier rises = tt
rising_after above (t ∷ []) top tier rises = (rises.0, (rises.1.0, rises.1.1, rises.1.2, tt))
rising_after above (t ∷ u ∷ tiers) top tier rises = (
  rises.0,
  (rises.1.0, rises.1.1, rises.1.2, rising_after rises.0 (u ∷ tiers) top tier rises.1.3),
)

-- the first of `count` tiers, as a walk along them has them
pub record AreFirst (count : ℕ) (tiers : List Tier) : Type 0 where
  pub priced : ArePriced tiers
  pub rises : length tiers < count → RisesTo 0 tiers (last_bound tiers)
  pub whole : length tiers ≡ count → IsOpen tiers × IsRisingFrom 0 tiers

bounds_rise : (above : ℕ) (tiers : List Tier) (tier : Tier) (upto : Option ℕ) → tier.upto ≡ upto →
    IsBoundAfter false (last_bound tiers) upto → RisesTo above tiers (last_bound tiers) →
    RisesTo above (tiers ++ tier ∷ []) (last_bound (tiers ++ tier ∷ []))
bounds_rise above tiers tier None is h rises = absurd h
bounds_rise above tiers tier (Some bound) is h rises =
    rw (last_bound-push tiers tier bound is)
    (rises_more above tiers (last_bound tiers) tier bound rises is h.0 h.1)

first_more : (count : ℕ) (tiers : List Tier) (tier : Tier) (last : Bool) →
    (length tiers + 1 == count) ≡ last → length tiers < count → tier.price ≤ 1_000_000_000 →
    IsBoundAfter last (last_bound tiers) tier.upto → AreFirst count tiers →
    AreFirst count (tiers ++ tier ∷ [])
first_more count tiers tier true test lt priced bounded first =
    let e : length tiers + 1 ≡ count = grind (arith, nat_tests) in
    let l : length (tiers ++ tier ∷ []) ≡ length tiers + 1 = length-append tiers (tier ∷ []) in
    record {
      priced = priced_more tiers tier first.priced priced;
      rises = λ below. absurd (omega (arith, l, e));
      whole = λ is. (
        open_after 0 tiers (last_bound tiers) tier (first.rises lt) bounded,
        rising_after 0 tiers (last_bound tiers) tier (first.rises lt),
      );
    }
first_more count tiers tier false test lt priced bounded first =
    let e : length tiers + 1 ≢ count = grind (arith, nat_tests) in
    let l : length (tiers ++ tier ∷ []) ≡ length tiers + 1 = length-append tiers (tier ∷ []) in
    record {
      priced = priced_more tiers tier first.priced priced;
      rises = λ below. bounds_rise 0 tiers tier tier.upto refl bounded (first.rises lt);
      whole = λ is. absurd (omega (arith, l, e, is));
    }

-- one tier more
pub first_goes_on : (count : ℕ) (tiers : List Tier) (tier : Tier) → length tiers < count →
    tier.price ≤ 1_000_000_000 →
    IsBoundAfter (length tiers + 1 == count) (last_bound tiers) tier.upto → AreFirst count tiers →
    AreFirst count (tiers ++ tier ∷ [])
first_goes_on count tiers tier lt priced bounded first =
    first_more count tiers tier (length tiers + 1 == count) refl lt priced bounded first
