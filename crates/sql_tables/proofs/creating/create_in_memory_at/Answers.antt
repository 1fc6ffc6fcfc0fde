use Rattle.sql_tables.proofs.Stages.{blank_from}
use Rattle.sql_tables.proofs.creating.create_in_memory_at.Goals as goal

pub create_tables_at-requires-clause-blank : goal.create_tables_at-requires-clause-blank
create_tables_at-requires-clause-blank c clean on = blank_from _ c.in_ok-conn.ensures.empty
