use Rattle.std.proofs.Common.{sym, ap, ◌∙◌, subst, Option}
use Rattle.std.specs.Option.{option_copied}
use Rattle.keepers.specs.declared.entries.AccountEntry.{AccountEntry}
use Rattle.keepers.specs.Change.{AreDeadOf}
use Rattle.keepers.specs.Memory.{rows_of_entry}
use Rattle.keepers.proofs.PartsKept.{if_ok}
use Rattle.keepers.proofs.Dead.{none_dead}
use Rattle.keepers.proofs.entries.dead_in.Goals as goal

pub returns-in_default : goal.returns-in_default
returns-in_default c =
    subst (λ (o : Option AccountEntry). AreDeadOf (rows_of_entry o) c.new.result.items)
    (sym (sym c.find.ensures ∙ ap option_copied c.in_default.is))
    (none_dead c.new.result.items c.new.ensures.items)

pub returns : goal.returns
returns c =
    let there = sym c.find.ensures ∙ ap option_copied c.in-Some.is in
    if_ok c.dead_buckets.result c.dead_buckets.ensures
    (λ found is. subst (λ (o : Option AccountEntry). AreDeadOf (rows_of_entry o) found.items)
    (sym there) is)
