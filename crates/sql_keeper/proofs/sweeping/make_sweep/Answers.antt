use Rattle.std.proofs.Common.{arith, sym}
use Rattle.sqlite.specs.Held.{state}
use Rattle.sql_keeper.specs.Content.{shelf_names}
use Rattle.sql_keeper.proofs.sweeps.SweptReads.{sweep_written}
use Rattle.sql_keeper.proofs.commits.Whole.{untouched}
use Rattle.sql_keeper.proofs.sweeping.make_sweep.Goals as goal

pub returns-then-not-is_later-clause-commits : goal.returns-then-not-is_later-clause-commits
returns-then-not-is_later-clause-commits g c =
    untouched _ (state g.S.Store c.args.conn.now) _ c.requires.idle

pub returns-then-not-is_moment-clause-commits : goal.returns-then-not-is_moment-clause-commits
returns-then-not-is_moment-clause-commits g c =
    untouched _ (state g.S.Store c.args.conn.now) _ c.requires.idle

pub returns-clause-commits : goal.returns-clause-commits
returns-clause-commits g c =
    sweep_written (shelf_names c.args.names.now) c.args.text.now c.args.shelf.now c.args.moment
    c.first-ranges.ensures.shelf
    (omega (arith, c.seconds-moment.ensures.in_range, c.seconds-moment.ensures.value))
    (sym c.if-not-is_moment.ensures) (state g.S.Store c.args.conn.now)
    (state g.S.Store c.write_sweep.new.conn) (c.requires.later c.if-not-is_later.false)
    c.write_sweep.result c.write_sweep.ensures.transacts
