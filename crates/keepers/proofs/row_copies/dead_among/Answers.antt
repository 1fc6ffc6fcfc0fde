use Rattle.std.proofs.Common.{rules, ap, ◌∙◌, ◌++◌}
use Rattle.std.specs.Prelude.{filter}
use Rattle.std.proofs.lemmas.Fn.{filter_same}
use Rattle.reserving.specs.Left.{is_dead}
use Rattle.keepers.proofs.row_copies.dead_among.Goals as goal

pub returns : goal.returns
returns c =
    filter_same _ (is_dead) _ (λ x b f' k. search rules) _ _ c.retain.ensures.filtered
    ∙ ap (filter (is_dead)) (c.in_ok-append.ensures.items
    ∙ (λ i. c.in_ok-rows.ensures i ++ (c.in_ok-to_vec.ensures ∙ c.purse.ensures) i))
