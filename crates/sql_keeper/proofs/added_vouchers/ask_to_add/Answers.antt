use Rattle.sqlite.specs.Held.{state}
use Rattle.sql_keeper.proofs.kept.SeenRows.{stands_after}
use Rattle.sql_keeper.proofs.stops.StillOpen.{committed_standing, standing_shut}
use Rattle.sql_keeper.proofs.added_vouchers.ask_to_add.Goals as goal

pub make_addition-requires-clause-is_there : goal.make_addition-requires-clause-is_there
make_addition-requires-clause-is_there g c later =
    stands_after c.args.is_there _ (state g.S.Store c.args.conn.now)
    (state g.S.Store c.still_open.new.conn) (c.requires.is_there later)
    c.in_ok-still_open.ensures.only

pub make_addition-requires-clause-plain : goal.make_addition-requires-clause-plain
make_addition-requires-clause-plain g c = c.in_ok-still_open.ensures.only.mode c.requires.plain

pub returns-in_err-still_open-clause-plain : goal.returns-in_err-still_open-clause-plain
returns-in_err-still_open-clause-plain g c =
    c.in_err-still_open.ensures.only.mode c.requires.plain

pub returns-in_err-still_open-clause-commits : goal.returns-in_err-still_open-clause-commits
returns-in_err-still_open-clause-commits g c =
    standing_shut _ (state g.S.Store c.args.conn.now) (state g.S.Store c.still_open.new.conn) _
    c.from_residual.result c.from_residual.ensures.0 c.in_err-still_open.ensures

pub returns-clause-commits : goal.returns-clause-commits
returns-clause-commits g c =
    committed_standing _ (state g.S.Store c.args.conn.now)
    (state g.S.Store c.still_open.new.conn) (state g.S.Store c.make_addition.new.conn) _
    c.make_addition.result c.in_ok-still_open.ensures c.make_addition.ensures.commits
