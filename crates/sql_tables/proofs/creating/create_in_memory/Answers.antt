use Rattle.sql_tables.proofs.Stages.{blank_from}
use Rattle.sql_tables.proofs.creating.create_in_memory.Goals as goal

pub create_tables-requires-clause-blank : goal.create_tables-requires-clause-blank
create_tables-requires-clause-blank c clean on = blank_from _ c.in_ok-conn.ensures.empty
