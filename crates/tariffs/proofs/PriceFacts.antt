-- The prices of a group, period by period.
use Rattle.std.proofs.Common.{◌≡◌, ℕ, true, List, [], ◌∷◌, length, set, zero, suc, replicate, Vec}
use Rattle.std.proofs.Common.{Global, sym, ap, ◌∙◌}
use Rattle.std.proofs.lemmas.List.{length-replicate, length-map}
use Rattle.std.specs.List.{AllByRecursion, list_all}
use Rattle.std.proofs.lemmas.Bool.{and_parts, false≢true}
use Rattle.tariffs.specs.declared.tiers.Tier.{Tier}
use Rattle.tariffs.specs.Prices.{AreTiers, IsPriceOrNone, has_tiers, tier_lists}

pub none_priced : (count : ℕ) → AllByRecursion IsPriceOrNone (replicate count [])
none_priced zero = tt
none_priced (suc count) = ((λ test. absurd (false≢true test)), none_priced count)

-- one price more
pub priced_set : (prices : List (List Tier)) (period : ℕ) (tiers : List Tier) → AreTiers tiers →
    AllByRecursion IsPriceOrNone prices → AllByRecursion IsPriceOrNone (set prices period tiers)
priced_set [] period tiers here all = tt
priced_set (t ∷ prices) zero tiers here all = ((λ _. here), all.1)
priced_set (t ∷ prices) (suc period) tiers here all =
    (all.0, priced_set prices period tiers here all.1)

-- a price for each period
pub all_priced : (prices : List (List Tier)) → list_all has_tiers prices ≡ true →
    AllByRecursion IsPriceOrNone prices → AllByRecursion AreTiers prices
all_priced [] test all = tt
all_priced (t ∷ prices) test all =
    let (here, more) = and_parts (has_tiers t) (list_all has_tiers prices) test in
    (all.0 here, all_priced prices more all.1)

-- lists of tiers are as many as the periods that they are for
pub count_of_lists : (lists : List (Vec Tier Global)) (count : ℕ) →
    tier_lists lists ≡ replicate count [] → length lists ≡ count
count_of_lists lists count e =
    sym (length-map lists (λ (v : Vec Tier Global). v.items)) ∙ ap length e
    ∙ length-replicate count []
