use Rattle.std.proofs.Common.{◌≡◌, sym, subst}
use Rattle.std.specs.Prelude.{IfOk, option_copied}
use Rattle.keepers.specs.Differing.{named_for}
use Rattle.keepers.proofs.loaded.named_for.Goals as goal

pub returns-in-Some : goal.returns-in-Some
returns-in-Some c =
    subst (λ o. IfOk c.differing_of.result
    (λ named. named ≡ named_for (option_copied o) c.args.before.now c.args.after))
    (sym c.in-Some.is) c.differing_of.ensures

pub returns-in-None : goal.returns-in-None
returns-in-None c =
    subst (λ o. IfOk c.differing.result
    (λ named. named ≡ named_for (option_copied o) c.args.before.now c.args.after))
    (sym c.in-None.is) c.differing.ensures
