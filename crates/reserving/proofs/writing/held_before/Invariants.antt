use Rattle.std.proofs.Common.{◌≡◌, ◌+◌, ◌*◌, ◌≤◌, drop}
use Rattle.reserving.specs.Written.{held_before}
use Rattle.reserving.proofs.writing.held_before.Given as goal

abbrev pub invariant-loop-group : goal.invariant-loop-group
invariant-loop-group l = record {
  total : l.total + held_before (drop l.group-index l.named) l.rows l.bucket
      ≡ held_before l.named l.rows l.bucket;
  most : l.total ≤ l.group-index * 1000000000000000;
}
