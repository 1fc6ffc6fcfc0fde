use Rattle.charging.proofs.charges.BoundedCharges.{charges_are_bounded}
use Rattle.charging.proofs.laws.charges_within_bounds.Goals as goal

pub returns : goal.returns
returns c = charges_are_bounded
