use Rattle.http_messages.specs.declared.routes.Route.TheVariants.{Ccr}
use Rattle.http_messages.proofs.Fitting.{all_added, next_fits, one_added}
use Rattle.http_messages.proofs.routes.add_each.Goals as goal

pub add-requires : goal.add-requires
add-requires c = next_fits c.args.routes.now c.args.router.now c.loop-route.route-index Ccr
    c.loop-route.router c.pattern.result.now c.pattern.ensures c.loop-route-test.true
    c.loop-route.invariant

pub loop-route-preserved : goal.loop-route-preserved
loop-route-preserved c = one_added c.args.routes.now c.args.router.now c.loop-route.route-index Ccr
    c.loop-route.router c.add.new.router c.pattern.result.now c.pattern.ensures
    c.in_ok-add.ensures.added c.loop-route-test.true c.loop-route.invariant

pub returns-clause-added : goal.returns-clause-added
returns-clause-added c = all_added c.args.routes.now c.args.router.now c.loop-route.route-index
    c.loop-route.router c.loop-route-test.false c.loop-route.invariant
