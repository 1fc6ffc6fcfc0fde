use Rattle.std.proofs.Common.{subst}
use Rattle.std.specs.Prelude.{IfSome}
use Rattle.sql_rows.specs.Content.{rows_in}
use Rattle.sql_keeper.specs.SeenFirst.{IsCopied}
use Rattle.sql_keeper.proofs.kept.SeenFirst.{first_copied}
use Rattle.sql_keeper.proofs.seen_first.seen_with_first.Goals as goal

pub returns-in-Some : goal.returns-in-Some
returns-in-Some c = λ trees sees found.
    c.noted_with.ensures trees sees
    (first_copied c.args.asked (rows_in trees c.args.account.now) c.args.read.now c.in-Some.read
    (subst (λ o. IfSome o (IsCopied c.args.read.now)) c.in-Some.is c.copy_of_first.ensures) found)
