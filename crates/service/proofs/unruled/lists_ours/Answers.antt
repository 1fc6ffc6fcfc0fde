use Rattle.std.proofs.Common.{rules, IsTrue, sym, subst}
use Rattle.service.specs.Unruled.{ListsOurs}
use Rattle.service.proofs.unruled.lists_ours.Goals as goal

pub returns-in-Some : goal.returns-in-Some
returns-in-Some g c ours = subst ListsOurs (sym c.in-Store.is) (λ clean.
    (c.in-Some.schema, search rules, subst IsTrue c.has_ours.ensures ours))
