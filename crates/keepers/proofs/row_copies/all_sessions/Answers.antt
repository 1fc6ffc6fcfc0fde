use Rattle.std.proofs.Common.{◌∙◌, ◌++◌}
use Rattle.keepers.proofs.row_copies.all_sessions.Goals as goal

pub returns : goal.returns
returns c = c.in_ok-append.ensures.items
    ∙ (λ i. c.in_ok-rows.ensures i ++ (c.in_ok-sessions_of.ensures ∙ c.sessions.ensures) i)
