use Rattle.std.proofs.Common.{◌∙◌, ap, subst, sym}
use Rattle.reserving.specs.Left.{differing}
use Rattle.reserving.specs.Stored.{StoredRows}
use Rattle.keepers.specs.Differing.{equal_bucket, equal_counter, equal_session, equal_group}
use Rattle.keepers.specs.Naming.{IsNamed}
use Rattle.keepers.proofs.NamedOver.{named_kept}
use Rattle.keepers.proofs.named_rows.NamedRows.differing.Goals as goal

pub invariant_of-result : goal.invariant_of-result
invariant_of-result c =
    let before : StoredRows = c.args.before.now in
    let after : StoredRows = c.args.after.now in
    subst IsNamed (sym (λ i. record {
      as_of = c.as_of.ensures.value i;
      barred = c.is_barred.ensures i;
      buckets = (c.in_ok-new_buckets.ensures
          ∙ ap (differing equal_bucket before.buckets) (c.buckets.ensures.value ∙ c.purse.ensures))
          i;
      counters = (c.in_ok-new_counters.ensures
          ∙ ap (differing equal_counter before.counters) c.counters.ensures) i;
      sessions = (c.in_ok-new_sessions.ensures
          ∙ ap (differing equal_session before.sessions) c.sessions.ensures) i;
      groups = (c.in_ok-new_groups.ensures
          ∙ ap (differing equal_group before.groups) c.groups.ensures) i;
      next_bucket = c.next_bucket.ensures i;
      next_charge = c.next_charge.ensures i;
    })) (named_kept before after c.as_of-kept.ensures.kept)
