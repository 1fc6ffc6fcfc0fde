use Rattle.sqlite.specs.Held.{state}
use Rattle.sql_keeper.proofs.stops.StillOpen.{asked_once, asked_shut}
use Rattle.sql_keeper.proofs.found_vouchers.ask_for_voucher.Goals as goal

pub returns-in_err-still_open : goal.returns-in_err-still_open
returns-in_err-still_open g c =
    asked_shut _ (state g.S.Store c.args.conn.now) (state g.S.Store c.still_open.new.conn) _
    c.from_residual.result c.from_residual.ensures.0 c.in_err-still_open.ensures

pub returns : goal.returns
returns g c =
    asked_once _ (state g.S.Store c.args.conn.now) (state g.S.Store c.still_open.new.conn)
    (state g.S.Store c.voucher_under.new.conn) _ c.voucher_under.result c.in_ok-still_open.ensures
    c.voucher_under.ensures
