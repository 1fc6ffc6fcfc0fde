use Rattle.std.proofs.Common.{true, refl, subst}
use Rattle.std.specs.List.{filter}
use Rattle.keepers.specs.Rows.{is_between}
use Rattle.keepers.specs.Numbers.{one_or_none}
use Rattle.keepers.specs.Visits.{Shows}
use Rattle.keepers.proofs.memory_charges.show_numbered.Goals as goal

pub returns-in_default : goal.returns-in_default
returns-in_default g c =
    subst (λ o. Shows g.V.ChargeVisitor.sees
    (filter (is_between c.args.from c.args.until) (one_or_none o)) true c.args.visitor.now
    c.args.visitor.now) c.in_default.ensures (refl, refl)

pub returns : goal.returns
returns g c =
    subst (λ o. Shows g.V.ChargeVisitor.sees
    (filter (is_between c.args.from c.args.until) (one_or_none o)) c.show_row.result
    c.args.visitor.now c.show_row.new.visitor) c.in-Some.ensures c.show_row.ensures
