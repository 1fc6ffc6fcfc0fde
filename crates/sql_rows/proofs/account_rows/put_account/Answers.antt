use Rattle.sql_rows.specs.Content.{has_account, with_account}
use Rattle.sql_rows.proofs.writes.Replaces.{was_put}
use Rattle.sql_rows.proofs.account_rows.put_account.Goals as goal

pub returns-clause-makes : goal.returns-clause-makes
returns-clause-makes g c =
    was_put (has_account c.args.account.now) (with_account c.args.account.now c.args.head.now)
    _ c.if-branch.false _ _ _ c.insert_account.result
    c.in_ok-replace_account.ensures.replaces c.insert_account.ensures.makes
