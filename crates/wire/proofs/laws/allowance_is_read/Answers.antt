use Rattle.wire.proofs.SaidBodies.{allowances_said, allowances_read}
use Rattle.wire.proofs.laws.allowance_is_read.Goals as goal

pub returns-clause-said : goal.returns-clause-said
returns-clause-said c = allowances_said

pub returns-clause-read : goal.returns-clause-read
returns-clause-read c = allowances_read
