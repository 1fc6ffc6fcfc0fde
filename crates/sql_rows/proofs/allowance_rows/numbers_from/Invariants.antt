use Rattle.std.proofs.Common.{◌≡◌, map, take}
use Rattle.sql_rows.specs.Values.{number_cells}
use Rattle.sql_rows.proofs.allowance_rows.numbers_from.Given as goal

abbrev pub invariant-rows : goal.invariant-rows
invariant-rows l = map number_cells l.numbers.items ≡ take l.row-index l.rows
