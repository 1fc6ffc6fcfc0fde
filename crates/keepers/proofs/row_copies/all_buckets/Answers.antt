use Rattle.std.proofs.Common.{◌∙◌, ◌++◌}
use Rattle.keepers.proofs.row_copies.all_buckets.Goals as goal

pub returns : goal.returns
returns c = c.in_ok-append.ensures.items
    ∙ (λ i. c.in_ok-rows.ensures i ++ (c.in_ok-to_vec.ensures ∙ c.purse.ensures) i)
