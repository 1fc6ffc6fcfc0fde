use Rattle.std.proofs.Common.{◌∙◌}
use Rattle.keepers.proofs.Overlaid.{over_first}
use Rattle.keepers.proofs.store.Store.first.Goals as goal

pub returns : goal.returns
returns c = c.new.ensures.over
    ∙ over_first c.args.named c.in_ok-live.live c.as_of-named.ensures.named c.in_ok-live.ensures
