use Rattle.ledger.proofs.Numbered.{goes_on}
use Rattle.ledger.proofs.laws.charges_go_on.Goals as goal

pub returns : goal.returns
returns c = goes_on
