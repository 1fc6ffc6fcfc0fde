-- The switch and the validity of a grant at a moment of a command are the book's own.
-- Source: RFC 8506 sections 8.20 and 8.33.
use Rattle.std.specs.Prelude.{◌≡◌, ◌≤◌}
use Rattle.units.specs.Words.{Moment, no_end}
use Rattle.calendar.specs.Timetable.{switch_within, validity_from}
use Rattle.tariffs.specs.Books.{Book, IsBook}
use Rattle.ledger.specs.Pricing.{switch_by, validity_by}

-- up to the end of what has no end, the end of all moments cuts neither
pub record IsWindowOfBook (b : Book) (t : Moment) : Type 0 where
  pub switch : switch_by b t ≡ switch_within b.calendar t b.validity
  pub validity : validity_by b t ≡ validity_from b.calendar t b.validity

abbrev pub AreWindowsOfBooks : Type 0
AreWindowsOfBooks = (b : Book) (t : Moment) → IsBook b → t ≤ no_end → IsWindowOfBook b t
