use Rattle.sqlite.specs.Held.{state}
use Rattle.sql_tables.proofs.OpeningSteps.{FoundTo}
use Rattle.sql_tables.proofs.finding.tables_differ.Given as goal

abbrev pub invariant-tables : goal.invariant-tables
invariant-tables g l = FoundTo l.version l.at (state g.S.Store l.fn.conn) (state g.S.Store l.conn)
