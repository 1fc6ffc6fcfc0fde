use Rattle.std.proofs.Common.{arith}
use Rattle.units.proofs.Started.{started_is}
use Rattle.units.proofs.blocks.blocks_started.Goals as goal

pub returns : goal.returns
returns c = omega (arith, started_is c.args.before.0 c.args.units.0 c.args.block c.requires)
