use Rattle.std.proofs.Common.{subst}
use Rattle.std.specs.Prelude.{IfSome}
use Rattle.sql_rows.specs.Content.{rows_in}
use Rattle.sql_keeper.specs.SeenFirst.{IsFirstRead}
use Rattle.sql_keeper.specs.declared.seen_first.SeenFirst.{SeenFirst}
use Rattle.sql_keeper.proofs.kept.SeenFirst.{first_alone}
use Rattle.sql_keeper.proofs.first_over.seen_alone.Goals as goal

pub returns-in-Some : goal.returns-in-Some
returns-in-Some c = λ trees read.
    first_alone c.args.account.now c.in-Some.first c.first_alone.result c.first_alone.ensures trees
    (subst (λ o. IfSome o (λ (y : SeenFirst).
    IsFirstRead y.asked (rows_in trees c.args.account.now) y.read)) c.in-Some.is read)
