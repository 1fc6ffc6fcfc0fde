use Rattle.charging.proofs.outcomes.Serving.{given-as}
use Rattle.charging.proofs.requests.tell_failed.Goals as goal

pub returns : goal.returns
returns c = given-as c.new.result c.in_ok-answer.answer _ c.new.ensures c.in_ok-answer.ensures
