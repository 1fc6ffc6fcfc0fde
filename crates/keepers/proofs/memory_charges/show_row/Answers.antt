use Rattle.std.proofs.Common.{true, ◌∷◌, [], cond, refl, subst}
use Rattle.keepers.specs.Visits.{Shows}
use Rattle.keepers.proofs.ByNumber.{shown_one}
use Rattle.keepers.proofs.memory_charges.show_row.Goals as goal

pub returns-then-not-is_between : goal.returns-then-not-is_between
returns-then-not-is_between g c =
    subst (λ b. Shows g.V.ChargeVisitor.sees (cond b (c.args.row.now ∷ []) []) true
    c.args.visitor.now c.args.visitor.now) c.if-not-is_between.ensures (refl, refl)

pub returns : goal.returns
returns g c =
    subst (λ b. Shows g.V.ChargeVisitor.sees (cond b (c.args.row.now ∷ []) []) c.row.result
    c.args.visitor.now c.row.new.self) c.if-not-is_between.ensures
    (shown_one g.V.ChargeVisitor.sees c.args.from c.args.until [] c.args.row.now c.row.result
    c.args.visitor.now c.row.new.self c.row.ensures)
