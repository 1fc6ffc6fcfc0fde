-- The content of tables in which each reservation has its book.
-- Source: profile.
use Rattle.std.specs.Prelude.{◌≡◌, Bool, true, false, Option, Some, None}
use Rattle.units.specs.Words.{BookNumber, GroupId}
use Rattle.identifiers.specs.Words.{SessionName}
use Rattle.shelves.specs.Shelves.{Shelf}
use Rattle.sql_rows.specs.Content.{TableRows}
use Rattle.sql_rows.specs.Values.{Group, PeriodNames}
use Rattle.sql_rules.specs.GrantRows.{are_periods_of}

-- there is a book, and the periods are its own
abbrev pub are_of_book : Shelf → Option BookNumber → PeriodNames → Bool
are_of_book shelf None p = false
are_of_book shelf (Some n) p = are_periods_of shelf n p.before p.after

abbrev pub are_all_of_book : Shelf → Option BookNumber → Option PeriodNames → Bool
are_all_of_book shelf book None = true
are_all_of_book shelf book (Some p) = are_of_book shelf book p

-- so it is where the group has a reservation
abbrev pub is_of_book : Shelf → Option BookNumber → Option Group → Bool
is_of_book shelf book None = true
is_of_book shelf book (Some x) = are_all_of_book shelf book x.periods

-- what is stored of an account: each reservation has the number of its book, and periods of it
-- rule: rows-ruled.granted
abbrev pub AreOfBooks : Shelf → TableRows → Type 0
AreOfBooks shelf r = (s : SessionName) (g : GroupId)
    → is_of_book shelf (r.grant_books s g) (r.groups s g) ≡ true
