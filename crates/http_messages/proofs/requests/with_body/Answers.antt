use Rattle.http_messages.proofs.Refusals.{head_says}
use Rattle.http_messages.proofs.requests.with_body.Goals as goal

pub returns-in-Err-clause-status : goal.returns-in-Err-clause-status
returns-in-Err-clause-status g c =
    λ said is. head_says said c.args.head c.in-Err.status is c.in-Err.is
