use Rattle.std.proofs.Common.{rules}
use Rattle.sql_rows.specs.Lists.{open_group_before}
use Rattle.sql_rows.specs.Texts.{open_group_at}
use Rattle.sql_rows.proofs.lists.Rising.{ascends_map}
use Rattle.sql_rows.proofs.open_group_rows.open_groups_from.Goals as goal

pub returns-clause-order : goal.returns-clause-order
returns-clause-order c =
    ascends_map open_group_before open_group_at c.rows.groups.items (search rules)
