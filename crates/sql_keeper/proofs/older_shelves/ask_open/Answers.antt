use Rattle.sqlite.specs.Held.{state}
use Rattle.sql_keeper.proofs.stops.StillOpen.{asked_spares}
use Rattle.sql_keeper.proofs.older_shelves.ask_open.Goals as goal

pub returns-in_err-map_err-clause-spares : goal.returns-in_err-map_err-clause-spares
returns-in_err-map_err-clause-spares g c clean =
    asked_spares _ _ (state g.S.Store c.args.conn.now) (state g.S.Store c.prepare.new.self)
    c.prepare.result (c.prepare.ensures.ok clean) (c.prepare.ensures.err clean)
