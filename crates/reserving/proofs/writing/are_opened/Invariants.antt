use Rattle.std.proofs.Common.{◌≡◌, drop}
use Rattle.std.specs.List.{list_all}
use Rattle.reserving.specs.Calm.{is_opened}
use Rattle.reserving.proofs.writing.are_opened.Given as goal

abbrev pub invariant-loop-row : goal.invariant-loop-row
invariant-loop-row l =
    list_all (is_opened l.before) (drop l.row-index l.named)
    ≡ list_all (is_opened l.before) l.named
