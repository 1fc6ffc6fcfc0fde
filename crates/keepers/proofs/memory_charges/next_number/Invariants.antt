use Rattle.std.proofs.Common.{◌≡◌, None, drop}
use Rattle.keepers.specs.Numbers.{next_number}
use Rattle.keepers.proofs.memory_charges.next_number.Given as goal

abbrev pub invariant-loop-row : goal.invariant-loop-row
invariant-loop-row l =
    next_number l.least l.found (drop l.row-index l.rows) ≡ next_number l.least None l.fn.rows
