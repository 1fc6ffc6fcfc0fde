use Rattle.std.proofs.Common.{◌≡◌, ◌++◌, drop}
use Rattle.std.specs.Prelude.{filter}
use Rattle.keepers.specs.Parts.{leaves_session}
use Rattle.keepers.proofs.left_rows.leaving_sessions.Given as goal

abbrev pub invariant-loop-row : goal.invariant-loop-row
invariant-loop-row l =
    l.rows.items ++ filter (leaves_session l.after) (drop l.row-index l.live)
    ≡ filter (leaves_session l.after) l.live
