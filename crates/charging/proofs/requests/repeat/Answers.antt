use Rattle.std.proofs.Common.{ap}
use Rattle.commands.specs.declared.command.Content.TheVariants as content
use Rattle.charging.specs.OutcomeParts.{repeated}
use Rattle.charging.proofs.outcomes.Serving.{given-as}
use Rattle.charging.proofs.requests.repeat.Goals as goal

pub returns : goal.returns
returns c = given-as c.repeated.result
    (repeated c.args.kept (content.Request c.args.request) c.in_ok-conflict.conflict) _
    c.repeated.ensures
    (ap (repeated c.args.kept (content.Request c.args.request)) c.in_ok-conflict.ensures)
