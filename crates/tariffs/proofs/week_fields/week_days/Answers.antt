use Rattle.std.proofs.Common.{refl, true, slice_set}
use Rattle.std.proofs.lemmas.Result.{err_from_is_err_and}
use Rattle.tariffs.proofs.Entries.{each_goes_on, each_ends, each_done}
use Rattle.tariffs.specs.WeekFields.{with_day}
use Rattle.tariffs.proofs.week_fields.week_days.Goals as goal

pub returns-in_err-day : goal.returns-in_err-day
returns-in_err-day c =
    let p = err_from_is_err_and c.from_residual.result c.from_residual.ensures.1 in
    rw (p.1, p.2)
    (each_ends c.in_err-day.field-0.0 with_day c.loop-value.days c.args.values.now
    c.loop-value.value-index c.value-item.result _ c.loop-value-test.true c.value-item.is
    (λ other. rw (c.in_err-day.ensures.value other) refl) c.loop-value.invariant)

pub loop-value-preserved : goal.loop-value-preserved
loop-value-preserved c =
    each_goes_on with_day c.loop-value.days (slice_set c.loop-value.days c.in_ok-day.day true)
    c.args.values.now c.loop-value.value-index c.value-item.result _ c.loop-value-test.true
    c.value-item.is (rw c.in_ok-day.ensures.value refl) c.loop-value.invariant

pub returns : goal.returns
returns c =
    each_done with_day c.loop-value.days c.args.values.now c.loop-value.value-index _
    c.loop-value-test.false c.loop-value.invariant
