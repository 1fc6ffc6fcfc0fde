use Rattle.std.proofs.Common.{◌≡◌, ◌*◌, ◌/◌, ◌∙◌, ap}
use Rattle.calendar.specs.Clock.{clock}
use Rattle.calendar.specs.Timetable.{Timetable, IsTimetable, period_at, minute_start}
use Rattle.calendar.proofs.Turns.{found_period, period_here}
use Rattle.calendar.proofs.calendar.Calendar.period_at.Goals as goal

pub entry_at-requires : goal.entry_at-requires
entry_at-requires c =
    record {
      week = λ w m day minute. rw c.deref.ensures.value
          (c.self.invariant.week.covered w m day minute);
    }

found : (c : goal.After-result-1) →
    c.entry_at.result.period ≡ period_at c.args.self.now c.args.moment
found c =
    let book : IsTimetable c.args.self.now = rw (← c.self.view_is) c.self.invariant in
    let entries = c.deref.ensures.value ∙ ap (λ (x : Timetable). x.entries) c.self.view_is in
    let minute = ap (λ n. clock c.self.inside.zone (60 * (n / 60))) c.seconds.ensures.value in
    let zone = ap (λ (x : Timetable). clock x.zone (minute_start c.args.moment)) c.self.view_is in
    found_period c.args.self.now c.args.moment _ _ _ book.week entries
    (c.clock_at.ensures.value ∙ minute ∙ zone) c.entry_at.ensures

pub returns-clause-value : goal.returns-clause-value
returns-clause-value c = found c

pub returns-clause-entry : goal.returns-clause-entry
returns-clause-entry c = λ e at.
    let book : IsTimetable c.args.self.now = rw (← c.self.view_is) c.self.invariant in
    found c ∙ period_here c.args.self.now c.args.moment e book.week at
