-- A table as a map from its keys to its rows.
use Rattle.std.specs.Cmp.Lexicographic.{pointwise}
use Rattle.std.specs.Prelude.{nat_eq, ◌≡◌, ℕ, Bool, List, map, drop, Option, IsTrue, false}
use Rattle.std.specs.FinMap.{FinMap, from_entries, get}
use Rattle.std.specs.List.{AllByRecursion}
use Rattle.std.specs.Ordering.{is_eq}
use Rattle.sqlite_value.specs.Order.{Row, column, row_cmp, value_cmp}
use Rattle.sqlite_trees.specs.Tree.{Trees, IsAscending, rowid}
use Rattle.sqlite_schema.specs.declared.schema.Table.{Table}
use Rattle.sqlite_trees.specs.View.{is_int}

-- the values at these places of a stored row, where place 0 is the rowid
abbrev pub key_of : List ℕ → Row → Row
key_of places row = map (column row) places

abbrev pub entry_of : List ℕ → Row → Row × Row
entry_of places row = (key_of places row, drop 1 row)

abbrev pub entries_of : List ℕ → List Row → List (Row × Row)
entries_of places rows = map (entry_of places) rows

-- from the key to the columns
abbrev pub table_of : List ℕ → List Row → FinMap row_cmp Row
table_of places rows = from_entries (entries_of places rows)

-- the two maps answer alike
abbrev pub Alike : FinMap row_cmp Row → FinMap row_cmp Row → Type 0
Alike a b = (key : Row) → get a key ≡ get b key

-- no rowid comes twice, and each is an integer
abbrev pub IsStored : List Row → Type 0
IsStored rows = IsAscending (λ a b. is_eq (value_cmp (rowid a) (rowid b)) ≡ false) rows
    × AllByRecursion (λ r. IsTrue (is_int (rowid r))) rows

-- the columns under a key
abbrev pub look : Table → Trees → Row → Option Row
look table trees key = get (table_of table.primary (trees table.tree)) key

-- texts are known by their bytes
abbrev pub same_name : List ℕ → List ℕ → Bool
same_name = pointwise nat_eq
