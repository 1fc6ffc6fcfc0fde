use Rattle.std.proofs.Common.{sym, ap, ◌∙◌}
use Rattle.reserving.specs.Calm.{is_quiet_at}
use Rattle.reserving.proofs.Lists.{not_both}
use Rattle.reserving.proofs.rows.Quiet.{quiet_found}
use Rattle.reserving.proofs.account.Account.is_quiet.Goals as goal

pub is_quiet-requires-clause-order : goal.is_quiet-requires-clause-order
is_quiet-requires-clause-order c = c.self.invariant.priced.order.by_name

pub is_quiet-requires-clause-bound : goal.is_quiet-requires-clause-bound
is_quiet-requires-clause-bound c = λ e. absurd (not_both e)

pub returns-then-is_found_quiet : goal.returns-then-is_found_quiet
returns-then-is_found_quiet c =
    sym (quiet_found c.args.self.now c.args.moment
    (c.is_found_quiet.ensures c.if-is_found_quiet.true))

pub returns : goal.returns
returns c = c.is_quiet.ensures ∙ ap (is_quiet_at c.args.moment) c.self.view_is
