use Rattle.std.proofs.Common.{◌∙◌, ◌++◌}
use Rattle.keepers.proofs.row_copies.all_groups.Goals as goal

pub returns : goal.returns
returns c = c.in_ok-append.ensures.items
    ∙ (λ i. c.in_ok-rows.ensures i ++ (c.in_ok-groups_of.ensures ∙ c.groups.ensures) i)
