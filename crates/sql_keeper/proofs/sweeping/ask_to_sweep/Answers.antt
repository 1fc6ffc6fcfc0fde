use Rattle.std.proofs.Common.{◌≡◌, arith}
use Rattle.sql_rows.specs.Content.{tables_content}
use Rattle.sqlite.specs.Held.{state}
use Rattle.sql_keeper.proofs.kept.SeenRows.{up_to_after}
use Rattle.sql_keeper.proofs.stops.StillOpen.{committed_standing, standing_shut, told_standing}
use Rattle.sql_keeper.proofs.sweeping.ask_to_sweep.Goals as goal

pub make_sweep-requires-clause-plain : goal.make_sweep-requires-clause-plain
make_sweep-requires-clause-plain g c = c.in_ok-still_open.ensures.only.mode c.requires.plain

pub make_sweep-requires-clause-later : goal.make_sweep-requires-clause-later
make_sweep-requires-clause-later g c later =
    up_to_after c.args.moment (state g.S.Store c.args.conn.now)
    (state g.S.Store c.still_open.new.conn) (c.requires.later later)
    c.in_ok-still_open.ensures.only

pub returns-in_err-still_open-clause-plain : goal.returns-in_err-still_open-clause-plain
returns-in_err-still_open-clause-plain g c =
    c.in_err-still_open.ensures.only.mode c.requires.plain

pub returns-in_err-still_open-clause-commits : goal.returns-in_err-still_open-clause-commits
returns-in_err-still_open-clause-commits g c =
    standing_shut _ (state g.S.Store c.args.conn.now) (state g.S.Store c.still_open.new.conn) _
    c.from_residual.result c.from_residual.ensures.0 c.in_err-still_open.ensures

pub returns-clause-commits : goal.returns-clause-commits
returns-clause-commits g c =
    committed_standing _ (state g.S.Store c.args.conn.now)
    (state g.S.Store c.still_open.new.conn) (state g.S.Store c.make_sweep.new.conn) _
    c.make_sweep.result c.in_ok-still_open.ensures c.make_sweep.ensures.commits

pub returns-clause-count : goal.returns-clause-count
returns-clause-count g c =
    told_standing (λ n trees. n ≡ (tables_content trees).count) (state g.S.Store c.args.conn.now)
    (state g.S.Store c.still_open.new.conn) (state g.S.Store c.make_sweep.new.conn) _
    c.make_sweep.result c.in_ok-still_open.ensures
    (λ clean. omega (arith, c.make_sweep.ensures.commits.survives.clean, clean))
    c.make_sweep.ensures.count
