use Rattle.std.proofs.Common.{◌≡◌, ◌++◌, drop}
use Rattle.reserving.specs.Left.{differing}
use Rattle.keepers.specs.Differing.{equal_session}
use Rattle.keepers.proofs.named_rows.new_sessions.Given as goal

abbrev pub invariant-rows : goal.invariant-rows
invariant-rows l =
    l.new.items ++ differing equal_session l.before.sessions (drop l.row-index l.rows)
    ≡ differing equal_session l.before.sessions l.rows
