-- A value under a key of a table, by its kind and its range. Faults come in the order missing,
-- wrong kind, too many entries, out of range. Source: TOML 1.0; the faults: profile.
use Rattle.std.specs.Prelude.{ℕ, suc, ◌&&◌, List, [], ◌∷◌, Result, nat_le, pos, int_le}
use Rattle.std.specs.Prelude.{unsigned_abs}
use Rattle.toml.specs.Data.{Data, Items, no_items, item, Members, get_member, as_str, as_integer}
use Rattle.toml.specs.Data.{as_array, as_table}
use Rattle.tariffs.specs.declared.fault.BookFault.{BookFault}
use Rattle.tariffs.specs.declared.fault.BookFault.TheVariants.{Missing, WrongKind, OutOfRange}
use Rattle.tariffs.specs.declared.fault.BookFault.TheVariants.{TooMany}
use Rattle.texts.specs.Steps as steps
use Rattle.tariffs.specs.Faults.{◌>>=◌, or_fault, where_holds}

-- the value under a key
abbrev pub member_of : List ℕ → Members → Result Data BookFault
member_of key t = or_fault Missing (get_member key t)

-- the text under a key
unfoldable pub text_of : List ℕ → Members → Result (List ℕ) BookFault
text_of key t = do
  d ← member_of key t
  or_fault WrongKind (as_str d)

-- the whole number under a key, from low to high
unfoldable pub number_in : List ℕ → ℕ → ℕ → Members → Result ℕ BookFault
number_in key low high t = do
  d ← member_of key t
  n ← or_fault WrongKind (as_integer d)
  where_holds (int_le (pos low) n && int_le n (pos high)) OutOfRange (unsigned_abs n)

-- how many entries an array has
abbrev pub item_count : Items → ℕ
item_count no_items = 0
item_count (item d ds) = suc (item_count ds)

-- the array under a key, of at most so many entries
unfoldable pub array_of : List ℕ → ℕ → Members → Result Items BookFault
array_of key most t = do
  d ← member_of key t
  ds ← or_fault WrongKind (as_array d)
  where_holds (nat_le (item_count ds) most) TooMany ds

-- the array under a key, of one entry at least
unfoldable pub filled_array_of : List ℕ → ℕ → Members → Result Items BookFault
filled_array_of key most t = do
  ds ← array_of key most t
  where_holds (nat_le 1 (item_count ds)) OutOfRange ds

-- an entry of an array of texts, and of one of tables
abbrev pub text_at : Data → Result (List ℕ) BookFault
text_at d = or_fault WrongKind (as_str d)

abbrev pub table_at : Data → Result Members BookFault
table_at d = or_fault WrongKind (as_table d)

-- the entries of an array as a list
abbrev pub item_list : Items → List Data
item_list no_items = []
item_list (item d ds) = d ∷ item_list ds

-- the entries one after the other, each with what those before it left; the first fault ends it
abbrev pub each : {A : Type 0} → (A → Data → Result A BookFault) → A → Items → Result A BookFault
each step so_far ds = steps.each step so_far (item_list ds)

-- the list of what the entries say, each read beside those before it
abbrev pub collected : {A : Type 0}
    → (List A → Data → Result A BookFault) → List A → Items → Result (List A) BookFault
collected read before ds = steps.collected read before (item_list ds)
