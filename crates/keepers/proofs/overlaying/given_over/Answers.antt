use Rattle.std.proofs.Common.{◌≡◌, ◌++◌, List, refl, subst}
use Rattle.std.specs.Prelude.{filter}
use Rattle.std.specs.List.Sorted.{IsPermutation}
use Rattle.buckets.specs.Row.{BucketRow}
use Rattle.reserving.specs.declared.restoring.GivenRows.{GivenRows}
use Rattle.reserving.specs.Restored.{given}
use Rattle.reserving.specs.Stored.{StoredRows}
use Rattle.keepers.specs.Naming.{named_of}
use Rattle.keepers.specs.Overlaying.{stays_bucket, IsGivenOver}
use Rattle.keepers.proofs.overlaying.given_over.Goals as goal

given_named : (named w : StoredRows) (rows : GivenRows) (live : List BucketRow) → named ≡ w →
    record (given rows) { buckets = named.buckets } ≡ named →
    IsPermutation (filter (stays_bucket named.buckets) live ++ named.buckets) rows.purse →
    IsGivenOver w live rows
given_named named w rows live e same all =
    subst (λ (v : StoredRows). IsGivenOver v live rows) e (record { same = same; buckets = all })

pub returns : goal.returns
returns c =
    let rows : GivenRows = record {
      as_of = c.named.inside.as_of;
      barred = c.named.inside.barred;
      purse = c.in_ok-purse_of.field-0;
      counters = c.named.inside.counters;
      sessions = c.named.inside.sessions;
      groups = c.named.inside.groups;
      next_bucket = c.named.inside.next_bucket;
      next_charge = c.named.inside.next_charge;
    } in
    given_named (named_of c.named.inside) c.args.named rows c.args.live.now c.named.view_is refl
    (subst (λ (xs : List BucketRow). IsPermutation xs c.in_ok-purse_of.field-0)
    c.in_ok-buckets_over.ensures c.in_ok-purse_of.ensures)
