use Rattle.sql_rules.proofs.MappedPuts.{end_keeps, put_keeps, still_keeps}
use Rattle.sql_rules.proofs.laws.puts_keep_the_rules.Goals as goal

pub returns-clause-put : goal.returns-clause-put
returns-clause-put c = put_keeps

pub returns-clause-removed : goal.returns-clause-removed
returns-clause-removed c = end_keeps

pub returns-clause-other : goal.returns-clause-other
returns-clause-other c = still_keeps
