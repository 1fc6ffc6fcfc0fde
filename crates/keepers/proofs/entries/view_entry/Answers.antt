use Rattle.std.proofs.Common.{sym, ap, ◌∙◌, subst, Option}
use Rattle.std.specs.Option.{option_copied}
use Rattle.keepers.specs.declared.entries.AccountEntry.{AccountEntry}
use Rattle.keepers.specs.Change.{IsLoadedFrom}
use Rattle.keepers.specs.Memory.{rows_of_entry}
use Rattle.keepers.proofs.entries.view_entry.Goals as goal

pub returns-in_default : goal.returns-in_default
returns-in_default c =
    ap (λ o. (rows_of_entry o).head)
    (sym c.find.ensures ∙ ap option_copied c.in_default.is)

pub returns : goal.returns
returns c =
    let there = sym c.find.ensures ∙ ap option_copied c.in-Some.is in
    subst (λ (o : Option AccountEntry). IsLoadedFrom c.args.shelf.now c.args.moment
    (rows_of_entry o) c.in_ok-account.account) (sym there) c.in_ok-account.ensures
