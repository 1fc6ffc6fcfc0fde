use Rattle.charging.proofs.runs.Promised.{related}
use Rattle.operations.proofs.line_answers.run_each.Goals as goal

pub returns : goal.returns
returns g c =
    related c.args.shelf.now c.first-ranges.ensures.shelf c.args.commands.items
    (g.K.Keeper.seen c.args.keeper.now) (g.K.Keeper.seen c.run.new.keeper) c.run.result (g.met.K.Keeper.honesty c.run.new.keeper)
    c.run.ensures
