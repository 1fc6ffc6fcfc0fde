use Rattle.std.specs.Prelude.{IfSome}
use Rattle.sql_rows.specs.Content.{rows_in}
use Rattle.sql_keeper.specs.SeenFirst.{IsFirstRead}
use Rattle.sql_keeper.proofs.kept.SeenRows.{of_account}
use Rattle.sql_keeper.proofs.seen_first.first_of_seen.Goals as goal

pub returns : goal.returns
returns c = λ trees seen.
    of_account c.args.seen.now.account c.args.account.now c.if-not-is_same_account.ensures
    (λ a. IfSome c.first_among.result (IsFirstRead c.args.asked (rows_in trees a)))
    (c.first_among.ensures (rows_in trees c.args.seen.now.account) seen.first)
