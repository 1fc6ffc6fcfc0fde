use Rattle.std.proofs.Common.{rules, sym, ap, ◌∙◌}
use Rattle.std.proofs.lemmas.Fn.{filter_same}
use Rattle.buckets.specs.Row.{BucketRow}
use Rattle.keepers.specs.Named.{is_numbered}
use Rattle.keepers.specs.Parts.{leaves_bucket}
use Rattle.std.specs.List.{list_any}
use Rattle.keepers.proofs.Unchanged.{buckets_stay}
use Rattle.keepers.proofs.left_rows.keep_buckets.Goals as goal

pub returns-then-not-any_numbered : goal.returns-then-not-any_numbered
returns-then-not-any_numbered c =
    buckets_stay c.args.after.now c.args.numbers.now c.args.rows.now.items c.requires
    (sym (c.any_numbered.ensures
    ∙ ap (list_any (λ (x : BucketRow). is_numbered c.args.numbers.now x.number))
    (c.buckets.ensures.value ∙ c.purse.ensures)) ∙ c.if-not-any_numbered.true)

pub returns : goal.returns
returns c = filter_same _ (leaves_bucket c.args.after.now) _
    (λ x b f' k. search rules) _ _ c.retain.ensures.filtered
