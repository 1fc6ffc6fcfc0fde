use Rattle.sqlite.specs.Held.{state}
use Rattle.sql_keeper.proofs.stops.StillOpen.{asked_several, asked_shut}
use Rattle.sql_keeper.proofs.dead.ask_for_dead.Goals as goal

pub returns-in_err-still_open : goal.returns-in_err-still_open
returns-in_err-still_open g c =
    asked_shut _ (state g.S.Store c.args.conn.now) (state g.S.Store c.still_open.new.conn) _
    c.from_residual.result c.from_residual.ensures.0 c.in_err-still_open.ensures

pub returns : goal.returns
returns g c =
    asked_several _ (state g.S.Store c.args.conn.now) (state g.S.Store c.still_open.new.conn)
    (state g.S.Store c.dead_of.new.conn) _ c.dead_of.result c.in_ok-still_open.ensures
    c.dead_of.ensures
