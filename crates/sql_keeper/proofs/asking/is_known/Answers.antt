use Rattle.sqlite.specs.Held.{state}
use Rattle.sql_keeper.proofs.kept.SeenRows.{known_read}
use Rattle.sql_keeper.proofs.asking.is_known.Goals as goal

pub returns : goal.returns
returns g c =
    known_read c.args.account.now c.args.session.now c.in_ok-row.row c.is_some.result
    (state g.S.Store c.args.conn.now) (state g.S.Store c.read_session.new.conn)
    c.in_ok-row.ensures.reads c.in_ok-row.ensures.none c.is_some.ensures
