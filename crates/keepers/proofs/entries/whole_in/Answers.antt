use Rattle.std.proofs.Common.{sym, ap, ◌∙◌, subst, Option}
use Rattle.std.proofs.lemmas.Result.{IfOk-weaker}
use Rattle.std.specs.Option.{option_copied}
use Rattle.keepers.specs.declared.entries.AccountEntry.{AccountEntry}
use Rattle.keepers.specs.Whole.{AreWhole}
use Rattle.keepers.specs.Memory.{rows_of_entry}
use Rattle.keepers.proofs.WholeRows.{none_whole}
use Rattle.keepers.proofs.entries.whole_in.Goals as goal

pub returns-in_default : goal.returns-in_default
returns-in_default c =
    subst (λ (o : Option AccountEntry). AreWhole (rows_of_entry o) c.none.result)
    (sym (sym c.find.ensures ∙ ap option_copied c.in_default.is))
    (none_whole c.none.result c.none.ensures.buckets c.none.ensures.counters c.none.ensures.sessions
    c.none.ensures.groups)

pub returns : goal.returns
returns c =
    let there = sym c.find.ensures ∙ ap option_copied c.in-Some.is in
    IfOk-weaker c.whole.result _ _
    (λ found is. subst (λ (o : Option AccountEntry). AreWhole (rows_of_entry o) found) (sym there)
    is)
    c.whole.ensures
