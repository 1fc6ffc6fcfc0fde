-- The prices of a group in a book's document.
-- Source: TS 32.296, rating function; the keys: profile.
use Rattle.std.specs.Prelude.{ℕ, ◌+◌, ◌-◌, ◌==◌, Bool, true, false, not, List, [], length}
use Rattle.std.specs.Prelude.{replicate, slice_get, slice_index_or, slice_set, Option, Some, None}
use Rattle.std.specs.Prelude.{Result, Ok, nat_lt, unwrap_or, option_and_then, codes}
use Rattle.std.specs.List.{list_all}
use Rattle.units.specs.Words.{Place, most_counted, greatest_price}
use Rattle.toml.specs.Data.{Data, Members}
use Rattle.calendar.specs.declared.week.Period.{Period}
use Rattle.tariffs.specs.declared.fault.BookFault.{BookFault}
use Rattle.tariffs.specs.declared.fault.BookFault.TheVariants.{Missing, OutOfRange}
use Rattle.tariffs.specs.declared.fault.BookFault.TheVariants.{TiersNotRising}
use Rattle.tariffs.specs.Faults.{◌>>=◌, where_holds}
use Rattle.tariffs.specs.Fields.{number_in, array_of, filled_array_of, item_count, table_at}
use Rattle.tariffs.specs.Fields.{each, collected}
use Rattle.tariffs.specs.declared.tiers.Tier.{Tier}
use Rattle.tariffs.specs.Prices.{has_tiers}
use Rattle.tariffs.specs.Names.{period_of}

-- the bound of the last of some tiers; 0 before the first
abbrev pub last_bound : List Tier → ℕ
last_bound tiers =
    unwrap_or (option_and_then (λ tier. tier.upto) (slice_get tiers (length tiers - 1))) 0

-- `upto`: above the bound of the tier before; in the last tier it is not read
unfoldable pub bound_of : Bool → Place → Members → Result (Option Place) BookFault
bound_of true above t = Ok None
bound_of false above t = do
  upto ← number_in (codes "upto") 1 most_counted t
  where_holds (nat_lt above upto) TiersNotRising (Some upto)

-- an entry of `tiers`, the last one or not, after a tier with this bound
unfoldable pub tier_of : Bool → Place → Data → Result Tier BookFault
tier_of last above d = do
  t ← table_at d
  upto ← bound_of last above t
  price ← number_in (codes "price") 0 greatest_price t
  Ok (record { upto = upto; price = price })

-- the next of so many tiers, after those before it
abbrev pub next_tier : ℕ → List Tier → Data → Result Tier BookFault
next_tier count before = tier_of (length before + 1 == count) (last_bound before)

-- `tiers`: 1 to 8 of them
unfoldable pub tiers_of : Members → Result (List Tier) BookFault
tiers_of t = do
  ds ← filled_array_of (codes "tiers") 8 t
  collected (next_tier (item_count ds)) [] ds

-- an entry of `price`: a period that has none yet, and its tiers
unfoldable pub price_of : List (List ℕ) → List (List Tier) → Data →
    Result (Period × List Tier) BookFault
price_of names prices d = do
  t ← table_at d
  period ← period_of names t
  free ← where_holds (not (has_tiers (slice_index_or prices period.0 []))) OutOfRange period
  tiers ← tiers_of t
  Ok (free, tiers)

-- the tiers of each period with one more price
abbrev pub with_price : List (List ℕ) → List (List Tier) → Data →
    Result (List (List Tier)) BookFault
with_price names prices d =
    price_of names prices d >>= λ price. Ok (slice_set prices price.0.0 price.1)

-- `price`: at most 8 entries, which together give each period its tiers
unfoldable pub prices_of : List (List ℕ) → Members → Result (List (List Tier)) BookFault
prices_of names t = do
  ds ← array_of (codes "price") 8 t
  prices ← each (with_price names) (replicate (length names) []) ds
  where_holds (list_all has_tiers prices) Missing prices
