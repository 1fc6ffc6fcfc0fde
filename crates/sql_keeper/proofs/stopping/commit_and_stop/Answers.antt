use Rattle.sql_keeper.proofs.stops.Reopening.{changed_after}
use Rattle.sql_keeper.proofs.stopping.commit_and_stop.Goals as goal

pub returns-clause-whole : goal.returns-clause-whole
returns-clause-whole g c = λ rest.
    changed_after g.S.Store (λ s db. g.met.S.Store.settled s db) c.args.change c.args.keeper
    c.commit-answered.new.self c.failures-failures.ensures.kept rest
    c.commit-answered.ensures.whole c.commit-answered.result c.commit-answered.ensures.kept.stands
    c.commit-answered.ensures.done c.stop_and_open.result c.stop_and_open.ensures.found
