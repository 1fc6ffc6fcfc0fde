use Rattle.std.proofs.Common.{◌≡◌, List, subst, sym, ap, ◌∙◌}
use Rattle.buckets.specs.Row.{BucketRow}
use Rattle.reserving.specs.declared.session.Session.{Session}
use Rattle.reserving.specs.declared.session.SessionGroup.{SessionGroup}
use Rattle.reserving.specs.declared.session.Counter.{Counter}
use Rattle.keepers.specs.Parts.{AreParts, rows_of_parts}
use Rattle.keepers.specs.Named.{AreLeftBuckets, AreLeftCounters, AreLeftSessions, AreLeftGroups}
use Rattle.keepers.proofs.PartsWritten.{parts_first}
use Rattle.keepers.proofs.PartsKept.{parts_new}
use Rattle.reserving.specs.Left.{LeftRows, none_left}
use Rattle.keepers.proofs.store.Store.new.Goals as goal

pub invariant_of-result : goal.invariant_of-result
invariant_of-result c =
    let none : none_left ≡ record {
      buckets = c.new.result.items;
      counters = c.new-2.result.items;
      sessions = c.new-3.result.items;
      groups = c.new-4.result.items;
    } =
    sym (λ i. record {
      buckets = c.new.ensures.items i;
      counters = c.new-2.ensures.items i;
      sessions = c.new-3.ensures.items i;
      groups = c.new-4.ensures.items i;
    }) in
    record {
      parts = subst (λ (l : LeftRows). AreParts (record { live = c.args.live; left = l })) none
          (parts_new c.args.live c.as_of-kept.ensures.kept);
      buckets = subst (λ (xs : List BucketRow). AreLeftBuckets c.new-5.result xs)
          (sym c.new.ensures.items) tt;
      counters = subst (λ (xs : List Counter). AreLeftCounters c.new-7.result xs)
          (sym c.new-2.ensures.items) tt;
      sessions = subst (λ (xs : List Session). AreLeftSessions c.new-6.result xs)
          (sym c.new-3.ensures.items) tt;
      groups = subst (λ (xs : List SessionGroup). AreLeftGroups c.new-6.result xs)
          (sym c.new-4.ensures.items) tt;
    }

pub returns-clause-over : goal.returns-clause-over
returns-clause-over c =
    ap rows_of_parts (λ i. record {
      live = c.args.live;
      left = record {
        buckets = c.new.ensures.items i;
        counters = c.new-2.ensures.items i;
        sessions = c.new-3.ensures.items i;
        groups = c.new-4.ensures.items i;
      };
    })
    ∙ parts_first c.args.live
