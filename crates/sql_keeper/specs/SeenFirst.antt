-- What the first selection of a load gives: what is kept of an account once, with its counters of
-- cycles; and whether what was read before is all that is asked for.
-- Source: TS 32.296, counters.
use Rattle.std.specs.Prelude.{◌≡◌, ◌==◌, ◌&&◌, ◌||◌, Bool, true, not}
use Rattle.units.specs.Words.{Moment}
use Rattle.calendar.specs.declared.cycle.Cycle.TheVariants as often
use Rattle.calendar.specs.Timetable.{cycle_of}
use Rattle.tariffs.specs.Books.{Book}
use Rattle.sql_rows.specs.Content.{TableRows}
use Rattle.sql_rows.specs.Lists.{AreCountersIn}
use Rattle.sql_rows.specs.declared.head_counter_rows.HeadCycles.{HeadCycles}
use Rattle.sql_keeper.specs.Repeating.{has_cycles}
use Rattle.sql_keeper.specs.declared.seen_first.AskedCycles.{AskedCycles}

-- the cycles at a moment whose counters a book has
pub record AreCyclesAt (b : Book) (t : Moment) (k : AskedCycles) : Type 0 where
  pub dates : k.has_dates ≡ has_cycles b
  pub never : k.never ≡ cycle_of b.calendar.zone often.None t
  pub day : k.has_dates ≡ true → k.day ≡ cycle_of b.calendar.zone often.Day t
  pub month : k.has_dates ≡ true → k.month ≡ cycle_of b.calendar.zone often.Month t

-- what is read of an account's rows for these cycles: those of the day and of the month only where
-- they are asked for
-- rule: database-loads.first: what is kept of an account once is remembered with its counters of a
--   moment's cycles until something is written, and a load of the same cycles selects nothing
pub record IsFirstRead (k : AskedCycles) (r : TableRows) (x : HeadCycles) : Type 0 where
  pub head : x.head ≡ r.head
  pub never : AreCountersIn k.never r x.never.items
  pub daily : k.has_dates ≡ true → AreCountersIn k.day r x.daily.items
  pub monthly : k.has_dates ≡ true → AreCountersIn k.month r x.monthly.items

-- whether what was read for some cycles is all that is asked for
-- rule: database-loads.first
abbrev pub are_covered : AskedCycles → AskedCycles → Bool
are_covered was k = was.never == k.never
    && (not k.has_dates || (was.has_dates && (was.day == k.day && was.month == k.month)))

-- what the second reading has is what the first one has
pub record IsCopied (x y : HeadCycles) : Type 0 where
  pub head : y.head ≡ x.head
  pub never : y.never.items ≡ x.never.items
  pub daily : y.daily.items ≡ x.daily.items
  pub monthly : y.monthly.items ≡ x.monthly.items
