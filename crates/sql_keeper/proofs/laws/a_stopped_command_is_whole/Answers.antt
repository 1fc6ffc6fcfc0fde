use Rattle.sql_keeper.proofs.stops.Stopped.{are_stopped_whole}
use Rattle.sql_keeper.proofs.laws.a_stopped_command_is_whole.Goals as goal

pub returns : goal.returns
returns g c = are_stopped_whole g.S.Store g.T.Store (λ s db. g.met.S.Store.settled s db)
