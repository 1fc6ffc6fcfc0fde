use Rattle.std.proofs.Common.{◌≡◌, ◌++◌, length}
use Rattle.charging.proofs.runs.HeldRuns.{HasRun}
use Rattle.charging.proofs.running.answer_each.Given as goal

abbrev pub invariant-loop-dated : goal.invariant-loop-dated
invariant-loop-dated g l = record {
  had : HasRun l.shelf (g.K.Keeper.seen l.fn.keeper) (g.K.Keeper.seen l.keeper) l.yielded
      l.answers.items;
  all : l.yielded ++ l.dated-iterator.rest.items ≡ l.fn.commands.items;
  count : length l.answers.items ≡ length l.yielded;
}
