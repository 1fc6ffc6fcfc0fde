use Rattle.std.proofs.Common.{ap, ◌∙◌}
use Rattle.std.specs.Prelude.{is_some}
use Rattle.reserving.specs.Sessions.{is_counter}
use Rattle.keepers.proofs.PartsKept.{placed_found}
use Rattle.keepers.proofs.places.has_counter.Goals as goal

pub returns : goal.returns
returns c = c.is_some.ensures ∙ ap is_some c.counter_place.ensures
    ∙ placed_found (is_counter c.args.group c.args.cycle) c.args.rows.now
