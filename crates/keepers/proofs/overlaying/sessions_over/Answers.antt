use Rattle.std.proofs.Common.{rules, ap, ◌∙◌, ◌++◌}
use Rattle.std.specs.Prelude.{filter}
use Rattle.std.proofs.lemmas.Fn.{filter_same}
use Rattle.keepers.specs.Overlaying.{stays_session}
use Rattle.keepers.proofs.overlaying.sessions_over.Goals as goal

pub returns : goal.returns
returns c = c.in_ok-append.ensures.items
    ∙ ap (λ rows. rows ++ c.args.named.items)
    (filter_same _ (stays_session c.args.named.items) _
    (λ x b f' k. search rules) _ _ c.retain.ensures.filtered
    ∙ ap (filter (stays_session c.args.named.items)) c.in_ok-rows.ensures)
