use Rattle.sql_keeper.proofs.openings.Empty.{new_empty}
use Rattle.sql_keeper.proofs.laws.new_tables_are_empty.Goals as goal

pub returns : goal.returns
returns c = new_empty
