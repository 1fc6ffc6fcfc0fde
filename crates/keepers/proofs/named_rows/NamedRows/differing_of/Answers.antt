use Rattle.std.proofs.Common.{◌∙◌, ap, subst, sym}
use Rattle.std.specs.Prelude.{option_copied}
use Rattle.reserving.specs.Left.{differing}
use Rattle.reserving.specs.Restored.{given}
use Rattle.keepers.specs.Differing.{equal_bucket, equal_counter}
use Rattle.keepers.specs.Naming.{IsNamed}
use Rattle.keepers.proofs.NamedOwn.{own_kept, own_told}
use Rattle.keepers.proofs.named_rows.NamedRows.differing_of.Goals as goal

pub invariant_of-result : goal.invariant_of-result
invariant_of-result c =
    subst IsNamed (sym (own_told c.args.session.now c.args.before.now c.args.after
    (given c.into_own-as_of.result) c.in_ok-new_buckets.field-0.items
    c.in_ok-new_counters.field-0.items c.changed_sessions.result.items
    c.changed_groups.result.items c.groups_of.result.now (option_copied c.session.result)
    c.rows-before.ensures.kept c.into_own-as_of.ensures
    (c.in_ok-new_buckets.ensures
    ∙ ap (differing equal_bucket c.args.before.now.buckets) c.buckets.ensures.value)
    (c.in_ok-new_counters.ensures
    ∙ ap (differing equal_counter c.args.before.now.counters) c.deref.ensures.value)
    c.changed_sessions.ensures c.session.ensures c.changed_groups.ensures c.groups_of.ensures))
    (own_kept c.args.session.now c.args.before.now c.args.after c.as_of-kept.ensures.kept)

pub returns : goal.returns
returns c =
    own_told c.args.session.now c.args.before.now c.args.after
    (given c.into_own-as_of.result) c.in_ok-new_buckets.field-0.items
    c.in_ok-new_counters.field-0.items c.changed_sessions.result.items
    c.changed_groups.result.items c.groups_of.result.now (option_copied c.session.result)
    c.rows-before.ensures.kept c.into_own-as_of.ensures
    (c.in_ok-new_buckets.ensures
    ∙ ap (differing equal_bucket c.args.before.now.buckets) c.buckets.ensures.value)
    (c.in_ok-new_counters.ensures
    ∙ ap (differing equal_counter c.args.before.now.counters) c.deref.ensures.value)
    c.changed_sessions.ensures c.session.ensures c.changed_groups.ensures c.groups_of.ensures
