use Rattle.std.proofs.Common.{refl, sym, subst}
use Rattle.std.specs.List.{filter}
use Rattle.keepers.specs.Rows.{is_between, AreCharges}
use Rattle.keepers.specs.Visits.{Visits}
use Rattle.keepers.proofs.ShownRows.{rows_shown, shown_visits}
use Rattle.keepers.proofs.Unique.{one_list}
use Rattle.keepers.proofs.memory_charges.show_in_order.Goals as goal

pub returns-then-are_rising-clause-shown : goal.returns-then-are_rising-clause-shown
returns-then-are_rising-clause-shown g c =
    rows_shown g.V.ChargeVisitor.sees c.args.from c.args.until c.args.rows.now c.show.result
    c.args.visitor.now c.show.new.visitor c.show.ensures

pub returns-then-are_rising-clause-sees : goal.returns-then-are_rising-clause-sees
returns-then-are_rising-clause-sees g c = λ all are.
    let kept : AreCharges _ c.args.rows.now = record {
      rising = sym c.if-are_rising.ensures;
      listed = λ n. refl;
    } in
    subst (λ l. Visits g.V.ChargeVisitor.sees (filter (is_between c.args.from c.args.until) l)
    c.args.visitor.now c.show.new.visitor)
    (one_list kept are) (shown_visits _ _ c.show.result _ _ c.show.ensures)
