use Rattle.keepers.proofs.NamedOver.{named_over}
use Rattle.keepers.proofs.laws.only_what_differs.Goals as goal

pub returns : goal.returns
returns c = named_over
