use Rattle.std.proofs.Common.{rules, ◌≡◌, subst}
use Rattle.std.specs.Prelude.{IfSome}
use Rattle.reserving.specs.Rows.{AccountRows}
use Rattle.reserving.specs.Inside.{rows_inside}
use Rattle.reserving.specs.Calm.{IsCalm}
use Rattle.reserving.proofs.Lists.{not_both}
use Rattle.reserving.proofs.account.Account.is_found_quiet.Goals as goal

pub returns-then-eq : goal.returns-then-eq
returns-then-eq c = λ e.
    let same : c.in-Some.at ≡ c.args.moment = search rules in
    let found : IsCalm (record (rows_inside c.self.inside) { as_of = c.in-Some.at }) =
    subst (λ o. IfSome o (λ t. IsCalm (record (rows_inside c.self.inside) { as_of = t })))
    c.in-Some.is c.self.invariant.quiet in
    subst (λ (x : AccountRows). IsCalm (record x { as_of = c.args.moment })) c.self.view_is
    (subst (λ t. IsCalm (record (rows_inside c.self.inside) { as_of = t })) same found)

pub returns : goal.returns
returns c = λ e. absurd (not_both e)

pub returns-in_default : goal.returns-in_default
returns-in_default c = λ e. absurd (not_both e)
