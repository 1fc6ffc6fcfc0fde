use Rattle.sql_rows.proofs.puts.ReplaceCounter.{replaces_counter}
use Rattle.sql_rows.proofs.counter_rows.replace_counter.Goals as goal

pub returns-clause-replaces : goal.returns-clause-replaces
returns-clause-replaces g c = replaces_counter c.args.account.now c.args.counter.now _ _
    c.in_ok-count.count c.requires.tables c.in_ok-count.ensures.makes
