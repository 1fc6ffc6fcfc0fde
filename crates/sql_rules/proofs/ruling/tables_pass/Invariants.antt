use Rattle.sqlite.specs.Held.{state}
use Rattle.sql_rules.proofs.Steps.{FoundTo}
use Rattle.sql_rules.proofs.ruling.tables_pass.Given as goal

abbrev pub invariant-tables : goal.invariant-tables
invariant-tables g l =
    FoundTo l.shelf l.last l.at (state g.S.Store l.fn.conn) (state g.S.Store l.conn)
