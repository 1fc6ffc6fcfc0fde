use Rattle.std.proofs.Common.{rules}
use Rattle.std.proofs.lemmas.Fn.{filter_same}
use Rattle.keepers.specs.Parts.{leaves_group}
use Rattle.keepers.proofs.left_rows.filter_groups.Goals as goal

pub returns : goal.returns
returns c = filter_same _ (leaves_group c.args.after.now) _
    (λ x b f' k. search rules) _ _ c.retain.ensures.filtered
