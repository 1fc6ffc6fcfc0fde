use Rattle.std.proofs.Common.{◌≡◌, drop}
use Rattle.reserving.specs.Sessions.{group_in}
use Rattle.rules_tests.proofs.tests.account.calls.is_free.Given as goal

abbrev pub invariant-loop-row : goal.invariant-loop-row
invariant-loop-row l =
    group_in l.id l.group l.groups ≡ group_in l.id l.group (drop l.row-index l.groups)
