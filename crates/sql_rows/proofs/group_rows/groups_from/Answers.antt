use Rattle.std.proofs.Common.{rules}
use Rattle.sql_rows.specs.Lists.{group_at_before}
use Rattle.sql_rows.specs.Texts.{group_at}
use Rattle.sql_rows.proofs.lists.Rising.{ascends_map}
use Rattle.sql_rows.proofs.group_rows.groups_from.Goals as goal

pub returns-clause-order : goal.returns-clause-order
returns-clause-order c = ascends_map group_at_before group_at c.rows.groups.items (search rules)
