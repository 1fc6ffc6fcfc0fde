use Rattle.std.proofs.Common.{[]}
use Rattle.sqlite.specs.Held.{state}
use Rattle.sql_keeper.proofs.stops.StillOpen.{tested_open, tested_shut}
use Rattle.sql_keeper.proofs.still_open.still_open.Goals as goal

pub returns-in_err-_plan : goal.returns-in_err-_plan
returns-in_err-_plan g c =
    tested_shut _ (state g.S.Store c.args.conn.now) (state g.S.Store c.prepare.new.self)
    c.requires.idle c.prepare.ensures.survives c.prepare.ensures.mode _ c.from_residual.result
    c.from_residual.ensures.0 c.in_err-_plan.ensures.err

pub returns : goal.returns
returns g c = tested_open [] (state g.S.Store c.args.conn.now) (state g.S.Store c.prepare.new.self)
    c.requires.idle c.prepare.ensures.survives c.prepare.ensures.mode _
    (λ clean. (c.in_ok-_plan.ensures.ok clean).1)
