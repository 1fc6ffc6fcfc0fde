use Rattle.sql_keeper.proofs.stops.Reopening.{found_stopped, refused_stopped}
use Rattle.sql_keeper.proofs.stopping.stop_and_open.Goals as goal

pub returns-in-Ok-open-clause-found : goal.returns-in-Ok-open-clause-found
returns-in-Ok-open-clause-found g c =
    found_stopped g.S.Store (λ s db. g.met.S.Store.settled s db) c.args.keeper
    c.into_connection-connection.result c.in-Ok.shown c.into_connection-connection.ensures.kept
    c.into_connection-connection.ensures.connection c.in-Ok.ensures.shows c.in-Ok-open.made.0
    c.in-Ok-open.made.1 c.in-Ok-open.ensures.opened

pub returns-in-Err-open-clause-refused : goal.returns-in-Err-open-clause-refused
returns-in-Err-open-clause-refused g c =
    refused_stopped g.S.Store (λ s db. g.met.S.Store.settled s db) c.args.keeper
    c.into_connection-connection.result c.in-Ok.shown c.into_connection-connection.ensures.kept
    c.into_connection-connection.ensures.connection c.in-Ok.ensures.shows c.in-Err-open.left
    c.in-Err-open.fault c.in-Err-open.ensures.refused
