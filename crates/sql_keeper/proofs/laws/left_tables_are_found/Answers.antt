use Rattle.sql_keeper.proofs.openings.Held.{found_again}
use Rattle.sql_keeper.proofs.laws.left_tables_are_found.Goals as goal

pub returns : goal.returns
returns g c = found_again g.S.Store
