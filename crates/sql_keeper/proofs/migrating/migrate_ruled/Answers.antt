use Rattle.std.proofs.lemmas.Result.{err_from_is_err_and}
use Rattle.sqlite.specs.Held.{state}
use Rattle.sql_rules.proofs.Steps.{by_kept}
use Rattle.sql_keeper.proofs.migrations.MovedRuled.{asked, asked_last, asked_schema, moved_ruled, ruled_err}
use Rattle.sql_keeper.proofs.migrations.MovedRuled.{tested, tested_at, tested_rows, unasked}
use Rattle.sql_keeper.proofs.migrations.MovedRuled.{unshelved, untested_rows}
use Rattle.sql_keeper.proofs.migrating.migrate_ruled.Goals as goal

pub returns-in_err-read-clause-migrates : goal.returns-in_err-read-clause-migrates
returns-in_err-read-clause-migrates g c =
    let p = err_from_is_err_and c.from_residual.result c.from_residual.ensures.1 in
    ruled_err _ _ _ _ p.0 _ p.1 p.2 (unshelved _ _ _ _ c.in_err-read.ensures.finds)

pub returns-in_err-ask_open-clause-migrates : goal.returns-in_err-ask_open-clause-migrates
returns-in_err-ask_open-clause-migrates g c =
    let p = err_from_is_err_and c.from_residual-in_err-ask_open.result
    c.from_residual-in_err-ask_open.ensures.1 in
    ruled_err _ _ _ _ p.0 _ p.1 p.2 (unasked _ _ _ _ c.in_ok-read.read _ c.requires.at
    c.in_ok-read.ensures.finds c.in_err-ask_open.ensures.told c.in_err-ask_open.ensures.spares
    c.in_err-ask_open.ensures.survives)

pub test_rows-requires-clause-known : goal.test_rows-requires-clause-known
test_rows-requires-clause-known g c = c.requires.known.0

pub test_rows-requires-clause-ours : goal.test_rows-requires-clause-ours
test_rows-requires-clause-ours g c =
    asked_schema _ (state g.S.Store c.args.conn.now) (state g.S.Store c.ask_open.new.conn)
    c.in_ok-read.read c.requires.at
    (asked _ _ _ _ c.in_ok-read.read c.in_ok-read.ensures.finds c.in_ok-ask_open.ensures.same
    c.in_ok-ask_open.ensures.survives)

pub returns-in_err-test_rows-clause-migrates : goal.returns-in_err-test_rows-clause-migrates
returns-in_err-test_rows-clause-migrates g c =
    let p = err_from_is_err_and c.from_residual-in_err-test_rows.result
    c.from_residual-in_err-test_rows.ensures.1 in
    ruled_err _ _ _ _ p.0 _ p.1 p.2 (untested_rows _ _ _ _ c.in_ok-read.read _ c.requires.at
    (asked _ _ _ _ c.in_ok-read.read c.in_ok-read.ensures.finds c.in_ok-ask_open.ensures.same
    c.in_ok-ask_open.ensures.survives) (by_kept _ _ _ _ _ _
    (asked_last _ (state g.S.Store c.args.conn.now) (state g.S.Store c.ask_open.new.conn)
    c.in_ok-read.read
    (asked _ _ _ _ c.in_ok-read.read c.in_ok-read.ensures.finds c.in_ok-ask_open.ensures.same
    c.in_ok-ask_open.ensures.survives))
    c.in_err-test_rows.ensures.tells))

pub migrate_tables-requires-clause-at : goal.migrate_tables-requires-clause-at
migrate_tables-requires-clause-at g c =
    tested_at _ _ _ (tested _ _ _ _ c.in_ok-read.read _
    (asked _ _ _ _ c.in_ok-read.read c.in_ok-read.ensures.finds c.in_ok-ask_open.ensures.same
    c.in_ok-ask_open.ensures.survives) (by_kept _ _ _ _ _ _
    (asked_last _ (state g.S.Store c.args.conn.now) (state g.S.Store c.ask_open.new.conn)
    c.in_ok-read.read
    (asked _ _ _ _ c.in_ok-read.read c.in_ok-read.ensures.finds c.in_ok-ask_open.ensures.same
    c.in_ok-ask_open.ensures.survives))
    c.in_ok-test_rows.ensures.tells)) c.requires.at

pub migrate_tables-requires-clause-ruled : goal.migrate_tables-requires-clause-ruled
migrate_tables-requires-clause-ruled g c =
    tested_rows _ _ _ (tested _ _ _ _ c.in_ok-read.read _
    (asked _ _ _ _ c.in_ok-read.read c.in_ok-read.ensures.finds c.in_ok-ask_open.ensures.same
    c.in_ok-ask_open.ensures.survives) (by_kept _ _ _ _ _ _
    (asked_last _ (state g.S.Store c.args.conn.now) (state g.S.Store c.ask_open.new.conn)
    c.in_ok-read.read
    (asked _ _ _ _ c.in_ok-read.read c.in_ok-read.ensures.finds c.in_ok-ask_open.ensures.same
    c.in_ok-ask_open.ensures.survives))
    c.in_ok-test_rows.ensures.tells))

pub returns-clause-migrates : goal.returns-clause-migrates
returns-clause-migrates g c =
    moved_ruled _ _ _ _ (tested _ _ _ _ c.in_ok-read.read _
    (asked _ _ _ _ c.in_ok-read.read c.in_ok-read.ensures.finds c.in_ok-ask_open.ensures.same
    c.in_ok-ask_open.ensures.survives) (by_kept _ _ _ _ _ _
    (asked_last _ (state g.S.Store c.args.conn.now) (state g.S.Store c.ask_open.new.conn)
    c.in_ok-read.read
    (asked _ _ _ _ c.in_ok-read.read c.in_ok-read.ensures.finds c.in_ok-ask_open.ensures.same
    c.in_ok-ask_open.ensures.survives))
    c.in_ok-test_rows.ensures.tells)) c.migrate_tables.result
    c.migrate_tables.ensures.migrates
