use Rattle.std.proofs.Common.{rules, ap, ◌∙◌}
use Rattle.std.specs.Prelude.{filter}
use Rattle.std.proofs.lemmas.Fn.{filter_same}
use Rattle.keepers.specs.Parts.{leaves_counter}
use Rattle.keepers.proofs.left_rows.leaving_counters.Goals as goal

pub returns : goal.returns
returns c =
    filter_same _ (leaves_counter c.args.after.now) _
    (λ x b f' k. search rules) _ _ c.retain.ensures.filtered
    ∙ ap (filter (leaves_counter c.args.after.now))
    (c.in_ok-rows.ensures.items ∙ c.counters.ensures)
