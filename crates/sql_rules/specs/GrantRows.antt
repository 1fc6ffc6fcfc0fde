-- Reservations beside the rows of grant_books, which name the book of each.
-- Source: profile.
use Rattle.std.specs.Prelude.{◌≡◌, ◌&&◌, ℕ, Bool, true, false, List, Option, Some, None}
use Rattle.std.specs.Prelude.{is_some}
use Rattle.units.specs.Words.{BookNumber}
use Rattle.shelves.specs.Shelves.{Shelf, book_numbered}
use Rattle.sqlite_value.specs.Order.{Row, column}
use Rattle.sqlite_trees.specs.Tree.{Trees}
use Rattle.sqlite_rules.specs.Lists.{Has}
use Rattle.tariffs.specs.Books.{Book}
use Rattle.tariffs.specs.Names.{period_named}
use Rattle.sql_tables.specs.Schema.{grant_books, session_groups}
use Rattle.sql_rows.specs.Values.{nat}
use Rattle.sql_rules.specs.Beside.{is_equal}
use Rattle.sql_rules.specs.Columns.{number_at, text_at}

-- ---- periods by their names

abbrev pub has_period_of : Option Book → List ℕ → Bool
has_period_of None name = false
has_period_of (Some b) name = is_some (period_named b.periods name)

-- the book of a number is on the shelf and has a period of this name
abbrev pub is_period_of : Shelf → BookNumber → List ℕ → Bool
is_period_of shelf n name = has_period_of (book_numbered shelf n) name

-- and one of each of two names
abbrev pub are_periods_of : Shelf → BookNumber → List ℕ → List ℕ → Bool
are_periods_of shelf n before after = is_period_of shelf n before && is_period_of shelf n after

-- ---- a row of session_groups and one of grant_books

-- there is a reservation
abbrev pub is_held_row : Row → Bool
is_held_row group = is_equal (column group 5) (nat 1)

-- they are of one account, one session and one rating group
abbrev pub is_grant_row_of : Row → Row → Bool
is_grant_row_of group grant =
    is_equal (column grant 1) (column group 1) && is_equal (column grant 2) (column group 2)
    && is_equal (column grant 3) (column group 3)

-- the book has both periods
abbrev pub has_both_periods : Shelf → Row → Row → Bool
has_both_periods shelf group grant =
    are_periods_of shelf (number_at grant 4) (text_at group 6) (text_at group 7)

-- the same as it is selected: the number of the book, and the names of the periods
abbrev pub is_granted_row : Shelf → Row → Bool
is_granted_row shelf row =
    are_periods_of shelf (number_at row 0) (text_at row 1) (text_at row 2)

-- rule: rows-ruled.granted: each reservation has a row of grant_books, and its periods are those of
--   the book that this row names
pub record HaveBooks (shelf : Shelf) (trees : Trees) : Type 0 where
  pub there : (r : Row) → Has (trees session_groups.tree) r → is_held_row r ≡ true
      → (s : Row) × Has (trees grant_books.tree) s × (is_grant_row_of r s ≡ true)
  pub periods : (r s : Row) → Has (trees session_groups.tree) r → is_held_row r ≡ true
      → Has (trees grant_books.tree) s → is_grant_row_of r s ≡ true
      → has_both_periods shelf r s ≡ true
