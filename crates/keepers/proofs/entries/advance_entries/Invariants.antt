use Rattle.std.proofs.Common.{◌≡◌, take, drop}
use Rattle.keepers.specs.Memory.{AreSwept}
use Rattle.keepers.proofs.entries.advance_entries.Given as goal

abbrev pub invariant-loop-entry : goal.invariant-loop-entry
invariant-loop-entry l = AreSwept l.shelf l.moment (take l.entry-index l.fn.entries.items)
    (take l.entry-index l.entry-items)
    × (drop l.entry-index l.entry-items ≡ drop l.entry-index l.fn.entries.items)
