use Rattle.std.proofs.Common.{OnOk, subst}
use Rattle.sql_keeper.specs.KeptRows.{BecomesOver, Keeps}
use Rattle.sql_keeper.proofs.kept_rows.kept_over.Goals as goal

pub returns-in-Some : goal.returns-in-Some
returns-in-Some c = λ names text old new made sees keeps.
    c.kept_with.ensures names text old new
    (subst (λ r. OnOk r (BecomesOver names text c.args.change.now old new)) c.in-Ok.is made) sees
    (subst (λ o. Keeps names o old) c.in-Some.is keeps)
