-- Prices by tiers (TS 32.296, rating).
use Rattle.std.specs.Prelude.{◌≡◌, ◌≤◌, ◌<◌, Bool, true, false, not, IsTrue, ◌==◌, nat_le, List}
use Rattle.std.specs.Prelude.{[], ◌∷◌, length, map, if◌then◌else◌, Option, Some, None, Vec}
use Rattle.std.specs.List.{AllByRecursion}
use Rattle.std.specs.declared.alloc.Global.{Global}
use Rattle.units.specs.Words.{Micros, Place, most_counted, greatest_price}
use Rattle.tariffs.specs.declared.tiers.Tier.{Tier}

-- a tier prices the places up to its bound, and without a bound every place
abbrev pub reaches : Option Place → Place → Bool
reaches None place = true
reaches (Some bound) place = nat_le place bound

-- the price of the block at a place on the counter: that of the first tier whose bound is at least
-- the place
-- rule: tiers.block-price: price of a block at its place
abbrev pub block_price : List Tier → Place → Micros
block_price [] place = 0
block_price (tier ∷ tiers) place =
    if reaches tier.upto place then tier.price else block_price tiers place

-- no price is above 10^9 micro-units
abbrev pub ArePriced : List Tier → Type 0
ArePriced tiers = AllByRecursion (λ tier. tier.price ≤ greatest_price) tiers

-- the last tier has no bound
abbrev pub IsOpen : List Tier → Type 0
IsOpen [] = ⊥
IsOpen (tier ∷ []) = tier.upto ≡ None
IsOpen (tier ∷ next ∷ tiers) = IsOpen (next ∷ tiers)

-- every tier but the last has a bound, above that of the tier before and at most 4*10^18
abbrev pub IsRisingFrom : Place → List Tier → Type 0
IsRisingFrom above [] = Unit {0}
IsRisingFrom above (tier ∷ []) = Unit {0}
IsRisingFrom above (tier ∷ next ∷ tiers) =
    (bound : Place) ×
    ((tier.upto ≡ Some bound) × (above < bound) × (bound ≤ most_counted) ×
    IsRisingFrom bound (next ∷ tiers))

-- the tiers of a price: 1 to 8, rising, the last one open, none dearer than 10^9 micro-units a
-- block
pub record AreTiers (tiers : List Tier) : Type 0 where
  pub few : length tiers ≤ 8
  pub priced : ArePriced tiers
  pub open_end : IsOpen tiers
  pub rising : IsRisingFrom 0 tiers

-- the bound of a tier, the last one or not, after a tier with this bound
abbrev pub IsBoundAfter : Bool → Place → Option Place → Type 0
IsBoundAfter true above upto = upto ≡ None
IsBoundAfter false above None = ⊥
IsBoundAfter false above (Some bound) = (above < bound) × (bound ≤ most_counted)

-- the tiers of each period
abbrev pub tier_lists : List (Vec Tier Global) → List (List Tier)
tier_lists lists = map (λ v. v.items) lists

-- a period that has tiers has a price
abbrev pub has_tiers : List Tier → Bool
has_tiers tiers = not (length tiers == 0)

-- a period's tiers, or no price yet
abbrev pub IsPriceOrNone : List Tier → Type 0
IsPriceOrNone tiers = IsTrue (has_tiers tiers) → AreTiers tiers
