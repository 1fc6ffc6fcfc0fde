use Rattle.calendar.specs.Clock.{weekday, minute}
use Rattle.calendar.specs.Timetable.{minute_start}
use Rattle.tariffs.proofs.WeekFacts.{period_below}
use Rattle.tariffs.proofs.book.TariffBook.period_at.Goals as goal

pub returns-clause-in_range : goal.returns-clause-in_range
returns-clause-in_range c =
    let calendar = c.self.inside.calendar in
    let start = minute_start c.args.moment in
    rw (← c.self.view_is, c.period_at.ensures.value)
    (period_below calendar.entries (weekday calendar.zone start) (minute calendar.zone start) _
    c.self.invariant.periods.some c.self.invariant.entries)

pub returns-clause-entry : goal.returns-clause-entry
returns-clause-entry c = rw (← c.self.view_is) c.period_at.ensures.entry
