use Rattle.std.proofs.Common.{ap, ◌∙◌}
use Rattle.std.specs.Prelude.{is_some, ◌==◌}
use Rattle.keepers.proofs.PartsKept.{placed_found}
use Rattle.keepers.proofs.places.has_bucket.Goals as goal

pub returns : goal.returns
returns c = c.is_some.ensures ∙ ap is_some c.bucket_place.ensures
    ∙ placed_found (λ b. b.number == c.args.number) c.args.rows.now
