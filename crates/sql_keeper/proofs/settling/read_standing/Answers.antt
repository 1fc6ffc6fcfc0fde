use Rattle.sqlite.specs.Held.{state}
use Rattle.sql_keeper.proofs.kept.SeenRows.{standing_read}
use Rattle.sql_keeper.proofs.settling.read_standing.Goals as goal

pub returns : goal.returns
returns g c =
    standing_read c.args.account.now c.args.session.now c.in_ok-row.row c.standing_of.result
    (state g.S.Store c.args.conn.now) (state g.S.Store c.read_session.new.conn)
    c.in_ok-row.ensures.reads c.in_ok-row.ensures.none c.standing_of.ensures
