use Rattle.std.proofs.Common.{OnOk, subst}
use Rattle.sql_keeper.specs.KeptRows.{BecomesOver}
use Rattle.sql_keeper.specs.Seen.{Sees}
use Rattle.sql_keeper.proofs.first_over.seen_over.Goals as goal

pub returns-in-Some : goal.returns-in-Some
returns-in-Some c = λ names text old new made sees.
    c.seen_with_change.ensures names text old new
    (subst (λ r. OnOk r (BecomesOver names text c.args.change.now old new)) c.in-Ok.is made)
    (subst (λ o. Sees o old) c.in-Some.is sees)
