use Rattle.std.proofs.Common.{arith}
use Rattle.http_messages.proofs.Shown.{is_found, is_none, is_within, none_found}
use Rattle.http_messages.proofs.head_part.shown_length.Goals as goal

pub returns-in_err-at-clause-none : goal.returns-in_err-at-clause-none
returns-in_err-at-clause-none c = none_found c.from_residual.result
    (is_none c.args.shown.now c.min-most.result c.min-most.ensures c.in_err-at.ensures)

pub returns-clause-some : goal.returns-clause-some
returns-clause-some c =
    let (before, stands) = c.in_ok-at.ensures in
    is_found c.args.shown.now c.min-most.result c.in_ok-at.at
    (omega (arith, c.min-most.ensures)) (omega (arith, c.min-most.ensures)) stands before.before

pub returns-clause-within : goal.returns-clause-within
returns-clause-within c = is_within c.args.shown.now c.min-most.result c.in_ok-at.at
    (omega (arith, c.min-most.ensures)) c.in_ok-at.ensures.1
