use Rattle.std.proofs.Common.{◌≡◌, drop, ◌==◌}
use Rattle.std.specs.List.{list_any}
use Rattle.tariffs.proofs.group_fields.has_group.Given as goal

abbrev pub invariant-loop-other : goal.invariant-loop-other
invariant-loop-other l =
    list_any (λ other. other.group == l.id) (drop l.other-index l.before)
    ≡ list_any (λ other. other.group == l.id) l.before
