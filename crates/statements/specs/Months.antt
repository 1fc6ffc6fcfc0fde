-- The charges of a civil month.
-- Source: profile.
use Rattle.std.specs.Prelude.{◌+◌, ◌-◌, ◌*◌, ◌/◌, ◌%◌, ◌==◌, Bool}
use Rattle.units.specs.Words.{CycleNumber}
use Rattle.texts.specs.NumberWords.{MonthNumber}
use Rattle.calendar.specs.declared.cycle.Cycle.TheVariants as cycles
use Rattle.calendar.specs.Timetable.{cycle_of}
use Rattle.tariffs.specs.Books.{Book}
use Rattle.ledger.specs.ChargeColumns.{ChargeColumns}

-- months since January 1969, of a month YYYYMM
abbrev pub cycle_of_month : MonthNumber → CycleNumber
cycle_of_month month = 12 * (month / 100 - 1969) + month % 100 - 1

-- the charge's moment lies in the month of this number, in the book's zone
-- rule: statement-month
abbrev pub is_of_cycle : Book → CycleNumber → ChargeColumns → Bool
is_of_cycle book cycle c = cycle_of book.calendar.zone cycles.Month c.moment == cycle

-- rule: statement-month: the charges of a month
-- rule: statement
abbrev pub is_of_month : Book → MonthNumber → ChargeColumns → Bool
is_of_month book month c = is_of_cycle book (cycle_of_month month) c
