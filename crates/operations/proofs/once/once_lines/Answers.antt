use Rattle.operations.proofs.request_lines.OnceLemmas.{once-answered, once-begun}
use Rattle.operations.proofs.request_lines.Reached.{reached_lines}
use Rattle.operations.proofs.request_lines.Carried.{carried-cause, carried-cause_of_both}
use Rattle.operations.proofs.once.once_lines.Goals as goal

pub returns-clause-done : goal.returns-clause-done
returns-clause-done g c = once-answered c.lines.result _ _ _ _ _ _ _ _ c.in_ok-shelf.ensures
    c.new-keeper.ensures.content (c.lines.ensures.answers.answered tt)

pub returns-clause-fault : goal.returns-clause-fault
returns-clause-fault g c = once-begun c.lines.result _ _ _ _ _ _ _ _ c.in_ok-shelf.ensures
    c.new-keeper.ensures.content (c.lines.ensures.answers.begun tt)

pub returns-clause-reached : goal.returns-clause-reached
returns-clause-reached g c = reached_lines c.lines.result
    (carried-cause _ _ c.lines.result c.lines.ensures.answers.keeper)
    (carried-cause_of_both _ _ c.lines.result c.lines.ensures.answers.keeper)
