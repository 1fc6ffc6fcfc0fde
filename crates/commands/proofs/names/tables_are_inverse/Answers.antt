use Rattle.commands.proofs.Inverses.{are_tables}
use Rattle.commands.proofs.names.tables_are_inverse.Goals as goal

pub returns : goal.returns
returns c = are_tables
