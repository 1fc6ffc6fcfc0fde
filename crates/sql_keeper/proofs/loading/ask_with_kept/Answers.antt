use Rattle.sqlite.specs.Held.{state}
use Rattle.sql_keeper.specs.Content.{shelf_names}
use Rattle.sql_keeper.proofs.kept.KeptRows.{still_kept}
use Rattle.sql_keeper.proofs.kept.SeenRows.{seen_after}
use Rattle.sql_keeper.proofs.stops.StillOpen.{asked_several, asked_shut}
use Rattle.sql_keeper.proofs.loading.ask_with_kept.Goals as goal

pub load_of-requires-clause-kept : goal.load_of-requires-clause-kept
load_of-requires-clause-kept g c =
    still_kept (shelf_names c.args.names.now) c.args.kept.now (state g.S.Store c.args.conn.now)
    (state g.S.Store c.still_open.new.conn) c.requires.kept c.in_ok-still_open.ensures.only

pub load_of-requires-clause-seen : goal.load_of-requires-clause-seen
load_of-requires-clause-seen g c =
    seen_after c.args.seen.now (state g.S.Store c.args.conn.now)
    (state g.S.Store c.still_open.new.conn) c.requires.seen c.in_ok-still_open.ensures.only

pub returns-in_err-still_open-clause-asks : goal.returns-in_err-still_open-clause-asks
returns-in_err-still_open-clause-asks g c =
    asked_shut _ (state g.S.Store c.args.conn.now) (state g.S.Store c.still_open.new.conn) _
    c.from_residual.result c.from_residual.ensures.0 c.in_err-still_open.ensures

pub returns-in_err-still_open-clause-seen : goal.returns-in_err-still_open-clause-seen
returns-in_err-still_open-clause-seen g c =
    seen_after c.args.seen.now (state g.S.Store c.args.conn.now)
    (state g.S.Store c.still_open.new.conn) c.requires.seen c.in_err-still_open.ensures.only

pub returns-clause-asks : goal.returns-clause-asks
returns-clause-asks g c =
    asked_several _ (state g.S.Store c.args.conn.now) (state g.S.Store c.still_open.new.conn)
    (state g.S.Store c.load_of.new.conn) _ c.load_of.result c.in_ok-still_open.ensures
    c.load_of.ensures.reads
