use Rattle.charging.proofs.runs.Accounted.{accounted}
use Rattle.charging.proofs.runs.Promised.{related}
use Rattle.charging.proofs.laws.run_over_lists.Goals as goal

pub returns-clause-lists : goal.returns-clause-lists
returns-clause-lists g c = λ promise.
    related c.args.shelf.now c.first-ranges.ensures.shelf c.args.commands.now.items (g.K.Keeper.seen c.args.old.now)
    (g.K.Keeper.seen c.args.new.now) c.args.run.now (g.met.K.Keeper.honesty c.args.new.now) promise

pub returns-clause-accounted : goal.returns-clause-accounted
returns-clause-accounted g c = λ promise clean.
    let old = g.K.Keeper.seen c.args.old.now in
    let new = g.K.Keeper.seen c.args.new.now in
    let runs = related c.args.shelf.now c.first-ranges.ensures.shelf c.args.commands.now.items
    old new c.args.run.now (g.met.K.Keeper.honesty c.args.new.now) promise in
    accounted c.args.shelf.now c.args.commands.now.items old.tables new.tables
    c.args.run.now.answers.items c.first-ranges.ensures.shelf (runs.runs clean)
