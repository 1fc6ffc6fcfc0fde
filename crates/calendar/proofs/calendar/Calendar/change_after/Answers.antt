use Rattle.std.proofs.Common.{◌≡◌, ℕ, ◌≤◌, ◌+◌, ◌∙◌, ap, sym, arith}
use Rattle.std.specs.Prelude.{min}
use Rattle.calendar.specs.Clock.{clock, next_change}
use Rattle.calendar.specs.Timetable.{Timetable, IsTimetable, IsChange, minute_start, steady}
use Rattle.calendar.proofs.SwitchLemmas.{found_is, none_is}
use Rattle.calendar.proofs.Turns.{found_period}
use Rattle.calendar.proofs.Crossings.{crossing_begins, crossing_ends, steps_few, Turned, turned}
use Rattle.calendar.proofs.Crossings.{turn_found, turn_least, turn_steps, turn_goes_on}
use Rattle.calendar.proofs.calendar.Calendar.change_after.Goals as goal

pub entry_at-requires : goal.entry_at-requires
entry_at-requires c =
    record {
      week = λ w m day minute. rw c.deref.ensures.value
          (c.self.invariant.week.covered w m day minute);
    }

pub loop-at-init : goal.loop-at-init
loop-at-init c =
    let book : IsTimetable c.args.self.now = rw (← c.self.view_is) c.self.invariant in
    let shown : c.clock_at.result ≡ clock c.args.self.now.zone (minute_start c.args.start) =
    c.clock_at.ensures.value
    ∙ ap (λ (x : Timetable). clock x.zone (minute_start c.args.start)) c.self.view_is in
    let entries : c.deref.result.now ≡ c.args.self.now.entries =
    c.deref.ensures.value ∙ ap (λ (x : Timetable). x.entries) c.self.view_is in
    let now =
    found_period c.args.self.now c.args.start c.clock_at.result c.deref.result.now
    c.entry_at.result book.week entries shown c.entry_at.ensures in
    crossing_begins c.args.self.now c.args.start c.args.seconds c.args.steps.now
    c.entry_at.result.period book now c.requires.start

turn : (c : goal.In-Some) → Turned c.args.self.now c.args.start c.args.seconds c.args.steps.now
    c.entry_at.result.period c.loop-at.at c.loop-at.steps c.min-stop.result
    (steady c.stretch_at-stretch.result.lead c.deref-in-loop-at.result.now)
turn c =
    turned c.args.self.now c.self.inside.zone c.self.inside.entries.items
    c.deref-in-loop-at.result.now c.args.start c.args.seconds c.args.steps.now
    c.entry_at.result.period c.loop-at.at c.loop-at.steps c.min-stop.result
    c.stretch_at-stretch.result.until c.stretch_at-stretch.result.lead c.loop-at.invariant
    (omega (arith, c.ranges.seconds)) (omega (arith, c.loop-at-test.true, c.from.ensures))
    c.self.view_is c.stretch_at-stretch.ensures.lead c.stretch_at-stretch.ensures.until
    c.deref-in-loop-at.ensures.value
    (c.min-stop.ensures
    ∙ ap (λ n. min c.stretch_at-stretch.result.until (c.args.start + n)) c.from.ensures)

change : (c : goal.In-Some) →
    IsChange c.args.self.now c.args.start (c.args.start + c.args.seconds) c.in-Some.change
change c = turn_found _ _ _ _ _ _ _ _ _ c.in-Some.change (turn c) c.in-Some.ensures.found

least : (c : goal.In-Some) → (r : ℕ) →
    IsChange c.args.self.now c.args.start (c.args.start + c.args.seconds) r → c.in-Some.change ≤ r
least c =
    turn_least _ _ _ _ _ _ _ _ _ c.in-Some.change (turn c) c.in-Some.ensures.found
    c.in-Some.ensures.least

pub returns-in-Some-clause-value : goal.returns-in-Some-clause-value
returns-in-Some-clause-value c =
    sym (found_is c.args.self.now c.args.start c.args.seconds c.in-Some.change (change c) (least c))

pub returns-in-Some-clause-found : goal.returns-in-Some-clause-found
returns-in-Some-clause-found c = change c

pub returns-in-Some-clause-steps : goal.returns-in-Some-clause-steps
returns-in-Some-clause-steps c = λ short.
    turn_steps _ _ _ _ _ _ _ _ _ c.other_within-other.new.steps (turn c)
    c.other_within-other.ensures.steps short

pub loop-at-preserved : goal.loop-at-preserved
loop-at-preserved c =
    let turn : Turned c.args.self.now c.args.start c.args.seconds c.args.steps.now
    c.entry_at.result.period c.loop-at.at c.loop-at.steps c.min-stop.result
    (steady c.stretch_at-stretch.result.lead c.deref-in-loop-at.result.now) =
    turned c.args.self.now c.self.inside.zone c.self.inside.entries.items
    c.deref-in-loop-at.result.now c.args.start c.args.seconds c.args.steps.now
    c.entry_at.result.period c.loop-at.at c.loop-at.steps c.min-stop.result
    c.stretch_at-stretch.result.until c.stretch_at-stretch.result.lead c.loop-at.invariant
    (omega (arith, c.ranges.seconds)) (omega (arith, c.loop-at-test.true, c.from.ensures))
    c.self.view_is c.stretch_at-stretch.ensures.lead c.stretch_at-stretch.ensures.until
    c.deref-in-loop-at.ensures.value
    (c.min-stop.ensures
    ∙ ap (λ n. min c.stretch_at-stretch.result.until (c.args.start + n)) c.from.ensures)
    in
    (turn_goes_on _ _ _ _ _ _ _ _ _ c.other_within-other.new.steps
    c.stretch_at-stretch.result.until turn
    (c.stretch_at-stretch.ensures.until
    ∙ ap (λ (x : Timetable). next_change x.zone c.loop-at.at) c.self.view_is)
    c.in_default.ensures.none c.other_within-other.ensures.steps
    c.other_within-other.ensures.most).0

pub returns-clause-steps : goal.returns-clause-steps
returns-clause-steps c = λ short.
    steps_few c.args.self.now c.args.start c.args.seconds c.args.steps.now
    c.entry_at.result.period c.loop-at.at c.loop-at.steps c.loop-at.invariant short

pub returns-clause-value : goal.returns-clause-value
returns-clause-value c =
    let past : c.args.start + c.args.seconds ≤ c.loop-at.at =
    omega (arith, c.loop-at-test.false, c.from.ensures) in
    sym (none_is c.args.self.now c.args.start c.args.seconds
    (crossing_ends c.args.self.now c.args.start c.args.seconds c.args.steps.now
    c.entry_at.result.period c.loop-at.at c.loop-at.steps c.loop-at.invariant past))
