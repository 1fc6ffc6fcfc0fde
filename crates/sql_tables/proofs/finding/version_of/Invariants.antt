use Rattle.sql_tables.proofs.Versions.{IsOfNone}
use Rattle.sql_tables.proofs.finding.version_of.Given as goal

abbrev pub invariant-versions : goal.invariant-versions
invariant-versions g l = IsOfNone l.fn.conn.schema l.later
