use Rattle.sql_keeper.proofs.stops.Stopped.{opened_again}
use Rattle.sql_keeper.proofs.laws.a_stop_is_opened_again.Goals as goal

pub returns : goal.returns
returns g c = opened_again g.S.Store g.T.Store (λ s db. g.met.S.Store.settled s db)
