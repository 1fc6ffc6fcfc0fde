use Rattle.std.proofs.Common.{◌≡◌, map, take}
use Rattle.sql_rows.specs.Lists.{hold_cells}
use Rattle.sql_rows.proofs.hold_rows.helds_from.Given as goal

abbrev pub invariant-rows : goal.invariant-rows
invariant-rows l = map hold_cells l.helds.items ≡ take l.row-index l.rows
