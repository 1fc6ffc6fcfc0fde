use Rattle.std.proofs.Common.{◌≤◌, ◌<◌, length, arith}
use Rattle.std.proofs.lemmas.List.Elements.{All-push}
use Rattle.std.proofs.lemmas.Result.{err_from_is_err_and}
use Rattle.tariffs.proofs.Entries.{collected_goes_on, collected_ends, collected_done}
use Rattle.tariffs.specs.WeekFields.{entry_of}
use Rattle.tariffs.proofs.week_fields.week_entries.Goals as goal

pub returns-in_err-entry-clause-value : goal.returns-in_err-entry-clause-value
returns-in_err-entry-clause-value c =
    let p = err_from_is_err_and c.from_residual.result c.from_residual.ensures.1 in
    rw (p.1, p.2)
    (collected_ends c.in_err-entry.field-0.0 (λ before. entry_of c.args.names.now)
    c.loop-value.entries.items c.args.values.now c.loop-value.value-index c.value-item.result _
    c.loop-value-test.true c.value-item.is c.in_err-entry.ensures.value
    c.loop-value.invariant.reading)

pub loop-value-preserved : goal.loop-value-preserved
loop-value-preserved c = record {
  reading =
      rw c.in_ok-push.ensures.items
      (collected_goes_on (λ before. entry_of c.args.names.now) c.loop-value.entries.items
      c.in_ok-entry.entry c.args.values.now c.loop-value.value-index c.value-item.result _
      c.loop-value-test.true c.value-item.is c.in_ok-entry.ensures.value
      c.loop-value.invariant.reading);
  count = omega (arith, c.in_ok-push.ensures.len);
  ends = rw c.in_ok-push.ensures.items
      (All-push (λ e. e.to ≤ 1440) c.loop-value.entries.items c.in_ok-entry.entry
      c.loop-value.invariant.ends c.in_ok-entry.ensures.ends);
  in_range =
      rw c.in_ok-push.ensures.items
      (All-push (λ e. e.period.0 < length c.args.names.now) c.loop-value.entries.items
      c.in_ok-entry.entry c.loop-value.invariant.in_range c.in_ok-entry.ensures.in_range);
}

pub returns-clause-value : goal.returns-clause-value
returns-clause-value c =
    collected_done (λ before. entry_of c.args.names.now) c.loop-value.entries.items
    c.args.values.now c.loop-value.value-index _ c.loop-value-test.false
    c.loop-value.invariant.reading
