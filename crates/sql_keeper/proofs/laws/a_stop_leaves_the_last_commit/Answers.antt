use Rattle.sql_keeper.specs.Settled.{at_rest}
use Rattle.sql_keeper.proofs.laws.a_stop_leaves_the_last_commit.Goals as goal

pub returns : goal.returns
returns g c = at_rest g.S.Store (λ s db. g.met.S.Store.settled s db)
