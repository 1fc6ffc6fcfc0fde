use Rattle.std.proofs.Common.{◌∙◌}
use Rattle.reserving.proofs.OwnKept.{range_is}
use Rattle.reserving.proofs.own_rows.own_groups.Goals as goal

pub returns : goal.returns
returns c =
    range_is c.own_range-first.result.0 c.own_range-first.result.1 c.args.groups.now
    ∙ c.own_range-first.ensures.own
