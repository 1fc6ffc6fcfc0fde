use Rattle.std.proofs.Common.{rules, of_calls}
use Rattle.std.proofs.lemmas.Fn.{always_returns_same}
use Rattle.sql_keeper.specs.GroupRows.{precedes}
use Rattle.sql_keeper.proofs.loads.HoldRuns.{parted}
use Rattle.sql_keeper.proofs.own_rows.first_held.Goals as goal

pub returns-clause-parted : goal.returns-clause-parted
returns-clause-parted c =
    c.partition_point.ensures.partitioned (λ x. precedes c.args.session.now x)
    (always_returns_same _ _ _ (λ a r f k. search (rules, of_calls)))
    (parted c.args.session.now c.args.held.now c.requires)
