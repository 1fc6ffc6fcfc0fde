use Rattle.sqlite.specs.Held.{state}
use Rattle.sql_rows.specs.Content.{rows_in}
use Rattle.sql_keeper.specs.Content.{shelf_names}
use Rattle.sql_keeper.specs.Numbers.{AreNumbersFree}
use Rattle.sql_keeper.proofs.kept.KeptRows.{still_kept}
use Rattle.sql_keeper.proofs.kept.SeenRows.{seen_after, stands_after}
use Rattle.sql_keeper.proofs.stops.StillOpen.{committed_standing, standing_shut, was_standing}
use Rattle.sql_keeper.proofs.committing.ask_to_change.Goals as goal

pub make_change-requires-clause-seen : goal.make_change-requires-clause-seen
make_change-requires-clause-seen g c =
    seen_after c.args.seen.now (state g.S.Store c.args.conn.now)
    (state g.S.Store c.still_open.new.conn) c.requires.seen c.in_ok-still_open.ensures.only

pub make_change-requires-clause-kept : goal.make_change-requires-clause-kept
make_change-requires-clause-kept g c =
    still_kept (shelf_names c.args.books.now) c.args.kept.now (state g.S.Store c.args.conn.now)
    (state g.S.Store c.still_open.new.conn) c.requires.kept c.in_ok-still_open.ensures.only

pub make_change-requires-clause-is_there : goal.make_change-requires-clause-is_there
make_change-requires-clause-is_there g c later =
    stands_after c.args.is_there _ (state g.S.Store c.args.conn.now)
    (state g.S.Store c.still_open.new.conn) (c.requires.is_there later)
    c.in_ok-still_open.ensures.only

pub make_change-requires-clause-plain : goal.make_change-requires-clause-plain
make_change-requires-clause-plain g c = c.in_ok-still_open.ensures.only.mode c.requires.plain

pub returns-in_err-still_open-clause-plain : goal.returns-in_err-still_open-clause-plain
returns-in_err-still_open-clause-plain g c =
    c.in_err-still_open.ensures.only.mode c.requires.plain

pub returns-in_err-still_open-clause-commits : goal.returns-in_err-still_open-clause-commits
returns-in_err-still_open-clause-commits g c =
    standing_shut _ (state g.S.Store c.args.conn.now) (state g.S.Store c.still_open.new.conn) _
    c.from_residual.result c.from_residual.ensures.0 c.in_err-still_open.ensures

pub returns-clause-commits : goal.returns-clause-commits
returns-clause-commits g c =
    committed_standing _ (state g.S.Store c.args.conn.now)
    (state g.S.Store c.still_open.new.conn) (state g.S.Store c.make_change.new.conn) _
    c.make_change.result c.in_ok-still_open.ensures c.make_change.ensures.commits

pub returns-clause-free : goal.returns-clause-free
returns-clause-free g c =
    was_standing
    (λ trees. AreNumbersFree c.args.change.now (rows_in trees c.args.change.now.number)) _
    (state g.S.Store c.args.conn.now) (state g.S.Store c.still_open.new.conn)
    (state g.S.Store c.make_change.new.conn) _ c.make_change.result c.in_ok-still_open.ensures
    c.make_change.ensures.commits c.make_change.ensures.free
