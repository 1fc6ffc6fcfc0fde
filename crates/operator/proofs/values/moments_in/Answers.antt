use Rattle.std.proofs.Common.{◌≤◌}
use Rattle.std.proofs.lemmas.List.Elements.{All-push}
use Rattle.std.proofs.lemmas.Result.{err_from_is_err_and}
use Rattle.units.specs.Words.{latest_command}
use Rattle.operator.proofs.MomentWords as words
use Rattle.operator.proofs.values.moments_in.Goals as goal

pub loop-word-preserved : goal.loop-word-preserved
loop-word-preserved c = record {
  reading =
      rw c.in_ok-push.ensures.items
      (words.goes_on c.loop-word.moments.items c.in_ok-moment.moment c.args.words.now
      c.loop-word.word-index _ _ c.loop-word-test.true c.in_ok-moment.ensures.value
      c.loop-word.invariant.reading);
  in_range =
      rw c.in_ok-push.ensures.items
      (All-push (λ t. t ≤ latest_command) c.loop-word.moments.items c.in_ok-moment.moment
      c.loop-word.invariant.in_range c.in_ok-moment.ensures.in_range);
}

pub returns-in_err-moment-clause-value : goal.returns-in_err-moment-clause-value
returns-in_err-moment-clause-value c =
    let p = err_from_is_err_and c.from_residual.result c.from_residual.ensures.1 in
    rw (p.1, p.2)
    (λ other. words.ends c.in_err-moment.field-0.0 c.loop-word.moments.items c.args.words.now
    c.loop-word.word-index _ _ c.loop-word-test.true c.in_err-moment.ensures.value
    c.loop-word.invariant.reading)

pub returns-clause-value : goal.returns-clause-value
returns-clause-value c =
    words.done c.loop-word.moments.items c.args.words.now c.loop-word.word-index _
    c.loop-word-test.false c.loop-word.invariant.reading
