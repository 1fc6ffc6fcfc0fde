use Rattle.std.proofs.Common.{◌≡◌, map, take}
use Rattle.sql_rows.specs.Values.{charge_cells}
use Rattle.sql_rows.proofs.charge_rows.charges_from.Given as goal

abbrev pub invariant-rows : goal.invariant-rows
invariant-rows l = map charge_cells l.charges.items ≡ take l.row-index l.rows
