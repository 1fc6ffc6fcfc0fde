use Rattle.wire.proofs.SaidBodies.{credits_said, credits_read}
use Rattle.wire.proofs.laws.credit_is_read.Goals as goal

pub returns-clause-said : goal.returns-clause-said
returns-clause-said c = credits_said

pub returns-clause-read : goal.returns-clause-read
returns-clause-read c = credits_read
