use Rattle.std.proofs.Common.{rules, ap, ◌∙◌}
use Rattle.std.specs.Prelude.{filter}
use Rattle.std.proofs.lemmas.Fn.{filter_same}
use Rattle.keepers.specs.Parts.{leaves_bucket}
use Rattle.keepers.proofs.left_rows.leaving_buckets.Goals as goal

pub returns : goal.returns
returns c =
    filter_same _ (leaves_bucket c.args.after.now) _
    (λ x b f' k. search rules) _ _ c.retain.ensures.filtered
    ∙ ap (filter (leaves_bucket c.args.after.now)) (c.in_ok-rows.ensures ∙ c.purse.ensures)
