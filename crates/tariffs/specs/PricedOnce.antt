-- One price for each period: of the entries of a group's `price` exactly one names it, and its
-- tiers are the period's.
-- Source: profile.
use Rattle.std.specs.Prelude.{◌≡◌, ℕ, Bool, List, [], ◌∷◌, Option, Some, Result, Ok, slice_get}
use Rattle.std.specs.Prelude.{slice_index_or, option_and_then, codes}
use Rattle.std.specs.List.{filter}
use Rattle.std.specs.Option.{option_eq}
use Rattle.units.specs.Words.{PeriodNumber}
use Rattle.toml.specs.Data.{Data, Items, Members, get_member, as_str, as_table}
use Rattle.tariffs.specs.declared.fault.BookFault.{BookFault}
use Rattle.tariffs.specs.Faults.{◌>>=◌}
use Rattle.tariffs.specs.Fields.{array_of, table_at, item_list}
use Rattle.tariffs.specs.declared.tiers.Tier.{Tier}
use Rattle.tariffs.specs.Names.{AreDistinct, same_text}
use Rattle.tariffs.specs.PriceFields.{tiers_of, prices_of}

-- the text of an entry's `period`
abbrev pub period_text : Data → Option (List ℕ)
period_text d = option_and_then as_str (option_and_then (get_member (codes "period")) (as_table d))

-- an entry names this period
-- rule: tiers: exactly one price entry names each period, and its tiers are the period's
abbrev pub names_period : List ℕ → Data → Bool
names_period name d = option_eq same_text (period_text d) (Some name)

-- the tiers of an entry
abbrev pub entry_tiers : Data → Result (List Tier) BookFault
entry_tiers d = table_at d >>= tiers_of

-- of these entries one names the period, and these are its tiers
-- rule: tiers
pub record IsPricedOnce (name : List ℕ) (entries : List Data) (tiers : List Tier) : Type 0 where
  pub entry : Data
  pub only : filter (names_period name) entries ≡ entry ∷ []
  pub tiers_are : entry_tiers entry ≡ Ok tiers

-- of the prices that are read of a group, each period's are those of the one entry that names it
-- rule: tiers
abbrev pub PricesAreOnce : Type 0
PricesAreOnce =
    (names : List (List ℕ)) (t : Members) (prices : List (List Tier)) → AreDistinct names →
    prices_of names t ≡ Ok prices →
    (entries : Items) → array_of (codes "price") 8 t ≡ Ok entries →
    (place : PeriodNumber) (name : List ℕ) → slice_get names place ≡ Some name →
    IsPricedOnce name (item_list entries) (slice_index_or prices place [])
