use Rattle.std.proofs.Common.{◌≡◌, ◌++◌, drop}
use Rattle.std.specs.Prelude.{filter}
use Rattle.keepers.specs.Parts.{leaves_group}
use Rattle.keepers.proofs.left_rows.leaving_groups.Given as goal

abbrev pub invariant-loop-row : goal.invariant-loop-row
invariant-loop-row l =
    l.rows.items ++ filter (leaves_group l.after) (drop l.row-index l.live)
    ≡ filter (leaves_group l.after) l.live
