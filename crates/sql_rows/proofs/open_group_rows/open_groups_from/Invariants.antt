use Rattle.std.proofs.Common.{◌≡◌, map, take}
use Rattle.sql_rows.specs.Lists.{open_group_cells}
use Rattle.sql_rows.specs.Texts.{open_group_at}
use Rattle.sql_rows.proofs.open_group_rows.open_groups_from.Given as goal

abbrev pub invariant-rows : goal.invariant-rows
invariant-rows l =
    map open_group_cells (map open_group_at l.groups.items) ≡ take l.row-index l.rows
