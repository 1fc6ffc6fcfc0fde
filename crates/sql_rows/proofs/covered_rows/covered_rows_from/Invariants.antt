use Rattle.std.proofs.Common.{◌≡◌, map, take}
use Rattle.sql_rows.specs.Values.{covered_cells}
use Rattle.sql_rows.proofs.covered_rows.covered_rows_from.Given as goal

abbrev pub invariant-rows : goal.invariant-rows
invariant-rows l = map covered_cells l.covered.items ≡ take l.row-index l.rows
