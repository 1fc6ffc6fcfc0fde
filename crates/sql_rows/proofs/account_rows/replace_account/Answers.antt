use Rattle.sql_rows.proofs.puts.ReplaceAccount.{replaces_account, rules_account_replaced}
use Rattle.sql_rows.proofs.account_rows.replace_account.Goals as goal

pub returns-clause-replaces : goal.returns-clause-replaces
returns-clause-replaces g c = replaces_account c.args.account.now c.args.head.now _ _
    c.in_ok-count.count c.requires.tables c.in_ok-count.ensures.makes

pub returns-clause-rules : goal.returns-clause-rules
returns-clause-rules g c = rules_account_replaced c.args.account.now c.args.head.now _ _
    c.in_ok-count.count c.requires.tables c.in_ok-count.ensures.makes
