use Rattle.ledger.proofs.DeadBuckets.{dead_later, dead_settled}
use Rattle.ledger.proofs.laws.dead_for_good.Goals as goal

pub returns-clause-later : goal.returns-clause-later
returns-clause-later c = dead_later

pub returns-clause-settled : goal.returns-clause-settled
returns-clause-settled c = dead_settled
