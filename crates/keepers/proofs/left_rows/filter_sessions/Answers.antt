use Rattle.std.proofs.Common.{rules}
use Rattle.std.proofs.lemmas.Fn.{filter_same}
use Rattle.keepers.specs.Parts.{leaves_session}
use Rattle.keepers.proofs.left_rows.filter_sessions.Goals as goal

pub returns : goal.returns
returns c = filter_same _ (leaves_session c.args.after.now) _
    (λ x b f' k. search rules) _ _ c.retain.ensures.filtered
