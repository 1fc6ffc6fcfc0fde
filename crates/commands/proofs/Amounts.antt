-- The most of each kind of unit, as one bound.
use Rattle.std.proofs.Common.{◌≤◌, arith}
use Rattle.units.specs.declared.blocks.UnitKind.{UnitKind}
use Rattle.units.specs.declared.blocks.UnitKind.TheVariants as unit
use Rattle.commands.specs.Quantities.{most_units}

pub most_small : (kind : UnitKind) → most_units kind ≤ 1000000000000000000
most_small unit.Time = omega arith
most_small unit.TotalOctets = omega arith
most_small unit.ServiceSpecific = omega arith
