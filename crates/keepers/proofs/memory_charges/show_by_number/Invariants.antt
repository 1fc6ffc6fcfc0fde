use Rattle.std.proofs.Common.{◌≤◌}
use Rattle.keepers.proofs.ByNumber.{IsShownBelow}
use Rattle.keepers.proofs.ShownRows.{Goes}
use Rattle.keepers.proofs.memory_charges.show_by_number.Given as goal

abbrev pub invariant-loop-turn : goal.invariant-loop-turn
invariant-loop-turn g l = record {
  turns : l._turn ≤ l.least;
  small : l.least ≤ 4294967296;
  shown : IsShownBelow g.V.ChargeVisitor.sees l.from l.until l.rows l.least l.fn.visitor l.visitor;
  gone : Goes g.V.ChargeVisitor.sees l.from l.until l.fn.visitor l.visitor;
}
