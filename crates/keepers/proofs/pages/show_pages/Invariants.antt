use Rattle.std.proofs.Common.{◌≤◌}
use Rattle.keepers.proofs.Paged.{HasShown}
use Rattle.keepers.proofs.ShownRows.{Goes}
use Rattle.keepers.proofs.pages.show_pages.Given as goal

abbrev pub invariant-loop-page : goal.invariant-loop-page
invariant-loop-page g l = record {
  turns : (g.K.Keeper.seen l.keeper).clean → l._page ≤ l.after;
  asked : 1 ≤ l._page → (g.K.Keeper.seen l.keeper).honest → (g.K.Keeper.seen l.keeper).clean;
  small : l.after ≤ 4294967295;
  shown : HasShown g.V.ChargeVisitor.sees l.account l.from l.until l.after
      (g.K.Keeper.seen l.fn.keeper) (g.K.Keeper.seen l.keeper) l.fn.visitor l.visitor;
  gone : Goes g.V.ChargeVisitor.sees l.from l.until l.fn.visitor l.visitor;
}
