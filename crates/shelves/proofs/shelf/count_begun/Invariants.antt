use Rattle.std.proofs.Common.{◌≡◌, ◌+◌, drop}
use Rattle.shelves.specs.Shelves.{count_begun}
use Rattle.shelves.proofs.shelf.count_begun.Given as goal

abbrev pub invariant-loop-dated : goal.invariant-loop-dated
invariant-loop-dated l = record {
  value : l.count + count_begun (drop l.dated-index l.later) l.moment
      ≡ count_begun l.later l.moment;
  count : l.count ≡ l.dated-index;
}
