use Rattle.charging.proofs.dead.DeadRows.{dead_rows_stay}
use Rattle.charging.proofs.laws.dead_rows_stay.Goals as goal

pub returns : goal.returns
returns c = dead_rows_stay
