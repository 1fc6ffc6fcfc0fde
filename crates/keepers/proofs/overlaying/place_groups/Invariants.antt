use Rattle.std.specs.List.Sorted.{IsPermutation}
use Rattle.keepers.proofs.overlaying.place_groups.Given as goal

abbrev pub invariant-loop-turn : goal.invariant-loop-turn
invariant-loop-turn l = IsPermutation l.fn.rows.items l.rows.items
