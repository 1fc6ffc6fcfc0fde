use Rattle.std.proofs.Common.{◌≤◌}
use Rattle.charging.specs.Continued.{ForEachList, IsContinued, LeavesOn}
use Rattle.service.specs.ServingTold.{TellsFaults}
use Rattle.service.proofs.serving.serve_connections.Given as goal

abbrev pub invariant-loop-served : goal.invariant-loop-served
invariant-loop-served g l = record {
  told : TellsFaults l.failed (g.E.Write.contents l.fn.errors) (g.E.Write.contents l.errors);
  few : l.failed ≤ l._served;
  continued : (g.K.Keeper.seen l.keeper).clean → ForEachList l.shelf
      (g.K.Keeper.seen l.fn.keeper).tables (IsContinued l.shelf (g.K.Keeper.seen l.keeper).tables);
  cleanness : (g.K.Keeper.seen l.keeper).clean → (g.K.Keeper.seen l.fn.keeper).clean;
  honesty : (g.K.Keeper.seen l.keeper).honest → (g.K.Keeper.seen l.fn.keeper).honest;
  left : LeavesOn l.shelf (g.K.Keeper.seen l.fn.keeper) (g.K.Keeper.seen l.keeper);
  failures : (g.K.Keeper.seen l.fn.keeper).failed ≤ (g.K.Keeper.seen l.keeper).failed;
}
