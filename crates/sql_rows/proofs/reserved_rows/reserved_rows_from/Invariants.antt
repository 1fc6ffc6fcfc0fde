use Rattle.std.proofs.Common.{◌≡◌, map, take}
use Rattle.sql_rows.specs.Lists.{reserved_cells}
use Rattle.sql_rows.specs.Texts.{reserved_at}
use Rattle.sql_rows.proofs.reserved_rows.reserved_rows_from.Given as goal

abbrev pub invariant-rows : goal.invariant-rows
invariant-rows l = map reserved_cells (map reserved_at l.reserved.items) ≡ take l.row-index l.rows
