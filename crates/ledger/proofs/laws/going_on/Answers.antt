use Rattle.ledger.proofs.Positions.{brought_on, brought_alike}
use Rattle.ledger.proofs.laws.going_on.Goals as goal

pub returns-clause-position : goal.returns-clause-position
returns-clause-position c = brought_on

pub returns-clause-steps : goal.returns-clause-steps
returns-clause-steps c = brought_alike
