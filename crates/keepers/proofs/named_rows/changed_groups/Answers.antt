use Rattle.std.proofs.Common.{rules}
use Rattle.std.specs.Prelude.{not}
use Rattle.std.specs.List.{list_any}
use Rattle.std.proofs.lemmas.Fn.{filter_same}
use Rattle.keepers.specs.Differing.{equal_group}
use Rattle.keepers.proofs.named_rows.changed_groups.Goals as goal

pub returns : goal.returns
returns c =
    filter_same _ (λ r. not (list_any (equal_group r) c.args.before.now)) _
    (λ x b f' k. search rules) _ _ c.retain.ensures.filtered
