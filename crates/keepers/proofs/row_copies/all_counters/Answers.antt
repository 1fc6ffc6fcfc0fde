use Rattle.std.proofs.Common.{◌≡◌, rules, ◌∙◌, ◌++◌}
use Rattle.keepers.proofs.row_copies.all_counters.Goals as goal

pub returns : goal.returns
returns c =
    let left : c.in_ok-rows.rows.items ≡ c.args.left.now.items = search rules in
    let more : c.counters.result.now ≡ c.args.live.now.counters = search rules in
    c.in_ok-extend_from_slice.ensures.items ∙ (λ i. left i ++ more i)
