use Rattle.sql_keeper.proofs.puts.Puts.{makes_all_then}
use Rattle.sql_keeper.proofs.held_groups.put_kept_group.Goals as goal

pub returns : goal.returns
returns g c = makes_all_then c.in_ok-put_columns.ensures c.put_held.ensures
