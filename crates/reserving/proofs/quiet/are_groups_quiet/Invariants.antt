use Rattle.std.proofs.Common.{◌≡◌, drop}
use Rattle.std.specs.List.{list_all}
use Rattle.reserving.specs.Calm.{is_group_quiet}
use Rattle.reserving.proofs.quiet.are_groups_quiet.Given as goal

abbrev pub invariant-loop-row : goal.invariant-loop-row
invariant-loop-row l =
    list_all (is_group_quiet l.sessions) (drop l.row-index l.rows)
    ≡ list_all (is_group_quiet l.sessions) l.rows
