use Rattle.std.proofs.Common.{rules}
use Rattle.sqlite.specs.Held.{state}
use Rattle.sql_rules.proofs.BesideTold.{finds, finds_not}
use Rattle.sql_rules.proofs.pairs.finds_none.Goals as goal

pub returns-in_err-rows : goal.returns-in_err-rows
returns-in_err-rows g c =
    finds_not c.args.sql.now (state g.S.Store c.args.conn.now)
    (state g.S.Store c.query_all.new.self) c.requires.plain c.query_all.ensures.survives
    c.in_err-rows.field-0.0 c.from_residual.result (search rules) c.in_err-rows.ensures.err

pub returns : goal.returns
returns g c =
    finds c.args.sql.now (state g.S.Store c.args.conn.now) (state g.S.Store c.query_all.new.self)
    c.requires.plain c.query_all.ensures.survives c.in_ok-rows.rows.items c.is_empty.result
    (search rules) c.in_ok-rows.ensures.ok
