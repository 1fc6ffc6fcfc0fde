-- The counters of an account at a moment, by how often they begin again.
-- Source: TS 32.296, counters.
use Rattle.std.specs.Prelude.{◌≡◌, Bool, List, ◌++◌, Option, Some, None, filter, not}
use Rattle.std.specs.List.{list_any}
use Rattle.units.specs.Words.{Moment, GroupId}
use Rattle.calendar.specs.declared.cycle.Cycle.{Cycle}
use Rattle.calendar.specs.declared.cycle.Cycle.TheVariants as often
use Rattle.calendar.specs.contracts.cycle.CyclePartialEq.TheImpl.{ghosts as cycles}
use Rattle.shelves.specs.Shelves.{Shelf, book_at}
use Rattle.tariffs.specs.Books.{Book}
use Rattle.tariffs.specs.Tariffs.{GroupTariff}
use Rattle.reserving.specs.declared.session.Counter.{Counter}
use Rattle.ledger.specs.Pricing.{tariff_of}
use Rattle.sql_rows.specs.declared.head.HeadColumns.{HeadColumns}
use Rattle.sql_rows.specs.declared.head_counter_rows.HeadCycles.{HeadCycles}
use Rattle.sql_rows.specs.Content.{TableRows}
use Rattle.sql_keeper.specs.declared.live_rows.FirstRows.{FirstRows}
use Rattle.sql_keeper.specs.LiveRows.{AreCountersAt}

abbrev pub repeats_with : Option GroupTariff → Cycle
repeats_with None = often.None
repeats_with (Some x) = x.cycle

-- how often the counter of a rating group begins again: never for a group that the book doesn't
-- have
abbrev pub repeats_in : Book → GroupId → Cycle
repeats_in b g = repeats_with (tariff_of b g)

abbrev pub begins_again : GroupTariff → Bool
begins_again x = not (cycles.eq x.cycle often.None)

-- whether a book has a rating group whose counter begins again
abbrev pub has_cycles : Book → Bool
has_cycles b = list_any begins_again b.tariffs

-- those of the groups whose counters begin again so often
abbrev pub repeating : Book → Cycle → List Counter → List Counter
repeating b repeats cs = filter (λ r. cycles.eq (repeats_in b r.group) repeats) cs

-- what is made of the counters of the three cycles
pub record IsFirstOf (b : Book) (read : HeadCycles) (made : FirstRows) : Type 0 where
  pub head_is : made.head ≡ read.head
  pub counters_are : made.counters.items ≡ (repeating b often.None read.never.items
      ++ repeating b often.Day read.daily.items) ++ repeating b often.Month read.monthly.items

-- what is kept of an account once, and its counters of the cycles at the moment by the shelf whose
-- book it is
pub record IsFirst (b : Book) (t : Moment) (rows : TableRows) (head : Option HeadColumns)
    (counters : List Counter) : Type 0 where
  pub head_is : head ≡ rows.head
  pub counters_are : (s : Shelf) → b ≡ book_at s t → AreCountersAt s t rows counters
