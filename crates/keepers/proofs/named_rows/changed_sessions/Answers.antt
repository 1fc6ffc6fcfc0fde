use Rattle.std.proofs.Common.{rules}
use Rattle.std.specs.Prelude.{option_copied}
use Rattle.std.proofs.lemmas.Fn.{filter_same}
use Rattle.keepers.specs.Differing.{is_changed}
use Rattle.keepers.proofs.named_rows.changed_sessions.Goals as goal

pub returns : goal.returns
returns c =
    filter_same _ (is_changed (option_copied c.args.before)) _
    (λ x b f' k. search rules) _ _ c.retain.ensures.filtered
