use Rattle.std.proofs.Common.{sym, ap, subst, ◌∙◌}
use Rattle.reserving.specs.Rows.{AccountRows}
use Rattle.reserving.specs.Placed.{AreOfShelf}
use Rattle.reserving.specs.Changes.{terms_in}
use Rattle.reserving.proofs.kept.Placed.{terms_of_shelf}
use Rattle.reserving.proofs.account.Account.terms.Goals as goal

pub returns-in-Some-clause-of_shelf : goal.returns-in-Some-clause-of_shelf
returns-in-Some-clause-of_shelf c =
    subst (λ (a : AccountRows). AreOfShelf a.shelf c.in-Some.terms) c.self.view_is
    (terms_of_shelf c.self.inside.shelf.now c.args.session.now c.args.group
    c.self.inside.rows.groups.items c.in-Some.terms c.self.invariant.priced.placed
    (ap (terms_in c.args.session.now c.args.group) (sym c.deref.ensures.value)
    ∙ sym c.terms_of.ensures ∙ c.in-Some.is))
