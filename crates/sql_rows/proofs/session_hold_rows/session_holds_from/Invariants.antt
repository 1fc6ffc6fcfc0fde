use Rattle.std.proofs.Common.{◌≡◌, map, take}
use Rattle.sql_rows.specs.Lists.{session_hold_cells}
use Rattle.sql_rows.specs.Texts.{session_hold_at}
use Rattle.sql_rows.proofs.session_hold_rows.session_holds_from.Given as goal

abbrev pub invariant-rows : goal.invariant-rows
invariant-rows l =
    map session_hold_cells (map session_hold_at l.holds.items) ≡ take l.row-index l.rows
