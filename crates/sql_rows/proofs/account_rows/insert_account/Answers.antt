use Rattle.std.proofs.Common.{Ok}
use Rattle.sql_rows.proofs.puts.PutAccount.{makes_account, rules_account}
use Rattle.sql_rows.proofs.writes.Writes.{ran_with}
use Rattle.sql_rows.proofs.account_rows.insert_account.Goals as goal

pub returns-clause-makes : goal.returns-clause-makes
returns-clause-makes g c = makes_account c.args.account.now c.args.head.now _ _
    (Ok tt) c.requires.tables
    (ran_with _ _ _ _ c.in_ok-write_account.field-0 c.in_ok-write_account.ensures.makes tt)

pub returns-clause-rules : goal.returns-clause-rules
returns-clause-rules g c = rules_account c.args.account.now c.args.head.now _ _
    (Ok tt) c.requires.tables
    (ran_with _ _ _ _ c.in_ok-write_account.field-0 c.in_ok-write_account.ensures.makes tt)
