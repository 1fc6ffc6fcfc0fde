use Rattle.wire.proofs.SaidBodies.{redemptions_said, redemptions_read}
use Rattle.wire.proofs.laws.redemption_is_read.Goals as goal

pub returns-clause-said : goal.returns-clause-said
returns-clause-said c = redemptions_said

pub returns-clause-read : goal.returns-clause-read
returns-clause-read c = redemptions_read
