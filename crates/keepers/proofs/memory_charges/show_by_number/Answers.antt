use Rattle.std.proofs.Common.{◌+◌, arith, false, sym, subst}
use Rattle.keepers.proofs.ByNumber.{IsShownBelow, is_next, none_shown, next_shown}
use Rattle.keepers.proofs.ByNumber.{stopped_at, all_shown}
use Rattle.keepers.proofs.ShownRows.{goes_ended, goes_further, goes_last, goes_not_yet}
use Rattle.keepers.specs.Numbers.{one_or_none}
use Rattle.keepers.specs.Tables.{charge_in}
use Rattle.keepers.proofs.memory_charges.show_by_number.Goals as goal

pub loop-turn-init : goal.loop-turn-init
loop-turn-init g c = record {
  turns = omega arith;
  small = omega arith;
  shown = none_shown g.V.ChargeVisitor.sees c.args.from c.args.until c.args.rows.now
      c.args.visitor.now;
  gone = goes_not_yet g.V.ChargeVisitor.sees c.args.from c.args.until c.args.visitor.now;
}

pub returns-in_default-clause-shown : goal.returns-in_default-clause-shown
returns-in_default-clause-shown g c =
    goes_ended g.V.ChargeVisitor.sees c.args.from c.args.until c.args.visitor.now
    c.loop-turn.visitor c.loop-turn.invariant.gone

pub returns-in_default-clause-sees : goal.returns-in_default-clause-sees
returns-in_default-clause-sees g c =
    all_shown g.V.ChargeVisitor.sees c.args.from c.args.until c.args.rows.now c.loop-turn.least
    c.args.visitor.now c.loop-turn.visitor c.loop-turn.invariant.shown (sym c.in_default.ensures)

pub returns-then-not-show_numbered-clause-shown : goal.returns-then-not-show_numbered-clause-shown
returns-then-not-show_numbered-clause-shown g c =
    goes_last g.V.ChargeVisitor.sees c.args.from c.args.until
    (one_or_none (charge_in c.in-Some.number c.args.rows.now)) false c.args.visitor.now
    c.loop-turn.visitor c.show_numbered.new.visitor c.loop-turn.invariant.gone
    c.if-not-show_numbered.ensures

pub returns-then-not-show_numbered-clause-sees : goal.returns-then-not-show_numbered-clause-sees
returns-then-not-show_numbered-clause-sees g c =
    stopped_at g.V.ChargeVisitor.sees c.args.from c.args.until c.args.rows.now c.loop-turn.least
    c.in-Some.number c.args.visitor.now c.loop-turn.visitor c.show_numbered.new.visitor
    c.loop-turn.invariant.shown (sym c.in-Some.ensures) c.if-not-show_numbered.ensures

pub loop-turn-preserved : goal.loop-turn-preserved
loop-turn-preserved g c =
    let number = c.from-least.ensures in
    let was = c.loop-turn.invariant.turns in
    let next = is_next c.loop-turn.least c.in-Some.number c.args.rows.now (sym c.in-Some.ensures) in
    let low = next.low in
    record {
      turns = omega (arith, was, low, number);
      small = omega (arith, number);
      shown = subst (λ n. IsShownBelow g.V.ChargeVisitor.sees c.args.from c.args.until
          c.args.rows.now (n + 1) c.args.visitor.now c.show_numbered.new.visitor) (sym number)
          (next_shown g.V.ChargeVisitor.sees c.args.from c.args.until c.args.rows.now
          c.loop-turn.least c.in-Some.number c.args.visitor.now c.loop-turn.visitor
          c.show_numbered.new.visitor c.loop-turn.invariant.shown (sym c.in-Some.ensures)
          c.if-not-show_numbered.ensures);
      gone = goes_further g.V.ChargeVisitor.sees c.args.from c.args.until
          (one_or_none (charge_in c.in-Some.number c.args.rows.now)) c.args.visitor.now
          c.loop-turn.visitor c.show_numbered.new.visitor c.loop-turn.invariant.gone
          c.if-not-show_numbered.ensures;
    }
