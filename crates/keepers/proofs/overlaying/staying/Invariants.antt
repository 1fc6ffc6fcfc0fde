use Rattle.std.proofs.Common.{◌≡◌, ◌++◌, drop}
use Rattle.std.specs.Prelude.{filter}
use Rattle.keepers.specs.Overlaying.{stays_group}
use Rattle.keepers.proofs.overlaying.staying.Given as goal

abbrev pub invariant-loop-row : goal.invariant-loop-row
invariant-loop-row l =
    l.rows.items ++ filter (stays_group l.named l.sessions) (drop l.row-index l.groups)
    ≡ filter (stays_group l.named l.sessions) l.groups
