use Rattle.charging.proofs.runs.Accounted.{accounted}
use Rattle.charging.proofs.runs.Promised.{promised}
use Rattle.charging.proofs.running.run.Goals as goal

pub returns : goal.returns
returns g c =
    let old = g.K.Keeper.seen c.args.keeper.now in
    let new = g.K.Keeper.seen c.answer_each.new.keeper in
    let run = c.answer_each.result in
    promised c.args.shelf.now c.first-ranges.ensures.shelf c.args.commands.items old new run
    c.answer_each.ensures
    (λ clean. accounted c.args.shelf.now c.args.commands.items old.tables new.tables
    run.answers.items c.first-ranges.ensures.shelf (c.answer_each.ensures.runs clean))
