use Rattle.units.proofs.Started.{started-add}
use Rattle.units.proofs.blocks.cutting.Goals as goal

pub returns : goal.returns
returns c = started-add
