use Rattle.std.proofs.Common.{◌≡◌, ◌≤◌, ◌++◌, length}
use Rattle.operations.specs.Counts.{total_count}
use Rattle.charging.specs.Parts.{Leaves}
use Rattle.operations.specs.Imports.{HoldsBeginning, additions}
use Rattle.operations.proofs.ImportLemmas.{ImportsSoFar}
use Rattle.operations.proofs.importing.import.Given as goal

abbrev pub invariant-loop-row : goal.invariant-loop-row
invariant-loop-row g l = record {
  runs : (g.K.Keeper.seen l.keeper).clean →
      ImportsSoFar l.shelf (additions l.moment l.yielded) (g.K.Keeper.seen l.fn.keeper).tables
      (g.K.Keeper.seen l.keeper).tables l.counts;
  all : l.yielded ++ l.row-iterator.rest.items ≡ l.fn.rows.items;
  count : total_count l.counts ≡ length l.yielded;
  cleanness : (g.K.Keeper.seen l.keeper).clean → (g.K.Keeper.seen l.fn.keeper).clean;
  honesty : (g.K.Keeper.seen l.keeper).honest → (g.K.Keeper.seen l.fn.keeper).honest;
  stands : (g.K.Keeper.seen l.keeper).honest → (g.K.Keeper.seen l.fn.keeper).clean →
      (g.K.Keeper.seen l.keeper).clean;
  left : Leaves (g.K.Keeper.seen l.fn.keeper) (g.K.Keeper.seen l.keeper)
      (HoldsBeginning l.shelf (additions l.moment l.yielded) (g.K.Keeper.seen l.fn.keeper).tables);
  failures : (g.K.Keeper.seen l.fn.keeper).failed ≤ (g.K.Keeper.seen l.keeper).failed;
}
