use Rattle.operations.proofs.request_lines.Carried.{carried-stands}
use Rattle.ocs.proofs.replaying.answer_requests.Goals as goal

pub returns-clause-honesty : goal.returns-clause-honesty
returns-clause-honesty g c = c.lines.ensures.answers.keeper.honest

pub returns-clause-stands : goal.returns-clause-stands
returns-clause-stands g c = carried-stands _ _ c.lines.result c.lines.ensures.answers.keeper
