use Rattle.rating.proofs.Covered.{covers_the_first}
use Rattle.rating.proofs.report.covered_blocks_cost_nothing.Goals as goal

pub returns : goal.returns
returns c = covers_the_first
