use Rattle.std.proofs.Common.{◌≡◌, ◌++◌, take, drop, map}
use Rattle.sql_keeper.specs.KeptRows.{session_over}
use Rattle.sql_keeper.proofs.replaced_rows.put_sessions.Given as goal

abbrev pub invariant-loop-row : goal.invariant-loop-row
invariant-loop-row l =
    take l.row-index l.row-items ++ map (session_over l.named) (drop l.row-index l.row-items)
    ≡ map (session_over l.named) l.fn.rows.items
