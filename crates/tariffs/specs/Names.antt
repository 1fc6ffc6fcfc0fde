-- The names of a book's tariff periods.
-- Source: profile.
use Rattle.std.specs.Prelude.{◌≡◌, ℕ, ◌+◌, ◌≤◌, ◌&&◌, Bool, not, List, [], ◌∷◌, length, map, Option}
use Rattle.std.specs.Prelude.{Some, None, Result, nat_le, nat_eq, slice_get, if◌then◌else◌, codes}
use Rattle.std.specs.Prelude.{String, string_bytes}
use Rattle.std.specs.List.{list_all, list_any}
use Rattle.std.specs.Cmp.Lexicographic.{pointwise}
use Rattle.std.specs.Char.{is_ascii_lowercase}
use Rattle.std.specs.declared.alloc.Global.{Global}
use Rattle.units.specs.Words.{PeriodNumber}
use Rattle.toml.specs.Data.{Data, Members}
use Rattle.calendar.specs.declared.week.Period.{Period}
use Rattle.tariffs.specs.declared.fault.BookFault.{BookFault}
use Rattle.tariffs.specs.declared.fault.BookFault.TheVariants.{OutOfRange, UnknownPeriod}
use Rattle.tariffs.specs.Faults.{◌>>=◌, or_fault, where_holds}
use Rattle.tariffs.specs.Fields.{text_of, filled_array_of, text_at, collected}

-- two texts have the same bytes
abbrev pub same_text : List ℕ → List ℕ → Bool
same_text a b = pointwise nat_eq a b

-- the texts of some strings
abbrev pub texts : List (String Global) → List (List ℕ)
texts strings = map string_bytes strings

-- a name is 1 to 16 letters a to z, and none of those before it
abbrev pub is_name : List (List ℕ) → List ℕ → Bool
is_name before name =
    nat_le 1 (length name) && nat_le (length name) 16 && list_all is_ascii_lowercase name
    && not (list_any (λ other. same_text other name) before)

-- the names from a place of the book's list on: the period that has this one
abbrev pub period_from : PeriodNumber → List (List ℕ) → List ℕ → Option Period
period_from place [] text = None
period_from place (name ∷ names) text =
    if same_text name text then Some (record { 0 = place }) else period_from (place + 1) names text

-- the period of a name
abbrev pub period_named : List (List ℕ) → List ℕ → Option Period
period_named names text = period_from 0 names text

-- each name is found at its own place
abbrev pub AreDistinct : List (List ℕ) → Type 0
AreDistinct names = (place : PeriodNumber) (name : List ℕ) → slice_get names place ≡ Some name →
    period_named names name ≡ Some (record { 0 = place })

-- the names of a book's periods: 1 to 8, distinct
pub record ArePeriods (names : List (List ℕ)) : Type 0 where
  pub some : 1 ≤ length names
  pub few : length names ≤ 8
  pub distinct : AreDistinct names

-- an entry of `periods`
unfoldable pub name_of : List (List ℕ) → Data → Result (List ℕ) BookFault
name_of before d = do
  name ← text_at d
  where_holds (is_name before name) OutOfRange name

-- `periods`: 1 to 8 names
unfoldable pub names_of : Members → Result (List (List ℕ)) BookFault
names_of t = do
  ds ← filled_array_of (codes "periods") 8 t
  collected name_of [] ds

-- `period` in a week's entry and in a price
unfoldable pub period_of : List (List ℕ) → Members → Result Period BookFault
period_of names t = do
  text ← text_of (codes "period") t
  or_fault UnknownPeriod (period_named names text)
