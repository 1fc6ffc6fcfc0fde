use Rattle.std.proofs.Common.{ap, ◌∙◌}
use Rattle.std.specs.Prelude.{is_some}
use Rattle.reserving.specs.Sessions.{is_of}
use Rattle.keepers.proofs.PartsKept.{placed_found}
use Rattle.keepers.proofs.places.has_group.Goals as goal

pub returns : goal.returns
returns c = c.is_some.ensures ∙ ap is_some c.group_place.ensures
    ∙ placed_found (is_of c.args.session.now c.args.group) c.args.rows.now
