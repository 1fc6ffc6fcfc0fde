use Rattle.std.proofs.Common.{rules}
use Rattle.sqlite.specs.Held.{state}
use Rattle.sql_rules.specs.Beside.{AreRightBeside}
use Rattle.sql_rules.specs.Tables.{AreEachRuled, AreRightBy}
use Rattle.sql_rules.proofs.Steps.{ours_then, tells_not, tells_then}
use Rattle.sql_rules.proofs.ruling.rows_pass.Goals as goal

pub returns-in_err-tables_pass : goal.returns-in_err-tables_pass
returns-in_err-tables_pass g c =
    tells_not (AreEachRuled c.args.shelf.now c.args.last c.args.version)
    (AreRightBy c.args.shelf.now c.args.last c.args.version) (λ t w. w.each)
    (state g.S.Store c.args.conn.now) (state g.S.Store c.tables_pass.new.conn)
    c.in_err-tables_pass.field-0.0 c.from_residual.result (search rules)
    c.in_err-tables_pass.ensures

pub pairs_pass-requires-clause-ours : goal.pairs_pass-requires-clause-ours
pairs_pass-requires-clause-ours g c =
    ours_then (AreEachRuled c.args.shelf.now c.args.last c.args.version) c.args.version
    (state g.S.Store c.args.conn.now) (state g.S.Store c.tables_pass.new.conn)
    c.in_ok-tables_pass.field-0 c.in_ok-tables_pass.ensures c.requires.ours

pub returns : goal.returns
returns g c =
    tells_then (AreEachRuled c.args.shelf.now c.args.last c.args.version) AreRightBeside
    (AreRightBy c.args.shelf.now c.args.last c.args.version)
    (λ t p q. record { each = p; beside = q }) (λ t w. w.beside)
    (state g.S.Store c.args.conn.now) (state g.S.Store c.tables_pass.new.conn)
    (state g.S.Store c.pairs_pass.new.conn) c.in_ok-tables_pass.field-0 c.pairs_pass.result
    c.in_ok-tables_pass.ensures c.pairs_pass.ensures
