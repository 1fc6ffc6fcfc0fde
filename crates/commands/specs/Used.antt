-- What contracts see of a report of used units.
use Rattle.std.specs.Prelude.{List}
use Rattle.units.specs.declared.blocks.UnitKind.{UnitKind}
use Rattle.units.specs.declared.blocks.UsedPart.{UsedPart}

-- the parts of a report, all in units of one kind
pub record Used : Type 0 where
  pub kind : UnitKind
  pub parts : List UsedPart
