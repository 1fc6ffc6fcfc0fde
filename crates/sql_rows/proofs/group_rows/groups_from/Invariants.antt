use Rattle.std.proofs.Common.{◌≡◌, map, take}
use Rattle.sql_rows.specs.Lists.{group_at_cells}
use Rattle.sql_rows.specs.Texts.{group_at}
use Rattle.sql_rows.proofs.group_rows.groups_from.Given as goal

abbrev pub invariant-rows : goal.invariant-rows
invariant-rows l = map group_at_cells (map group_at l.groups.items) ≡ take l.row-index l.rows
