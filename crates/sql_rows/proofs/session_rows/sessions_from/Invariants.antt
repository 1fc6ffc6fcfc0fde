use Rattle.std.proofs.Common.{◌≡◌, map, take}
use Rattle.sql_rows.specs.Values.{session_cells}
use Rattle.sql_rows.proofs.session_rows.sessions_from.Given as goal

abbrev pub invariant-rows : goal.invariant-rows
invariant-rows l = map session_cells l.sessions.items ≡ take l.row-index l.rows
