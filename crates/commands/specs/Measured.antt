-- What contracts see of a quantity.
use Rattle.std.specs.Prelude.{ℕ}
use Rattle.units.specs.declared.blocks.UnitKind.{UnitKind}

-- units of a kind
pub record Measured : Type 0 where
  pub kind : UnitKind
  pub units : ℕ
