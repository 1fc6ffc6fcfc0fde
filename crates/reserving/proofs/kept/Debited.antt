-- What each account keeps is kept by a debit.
use Rattle.std.proofs.Common.{◌≡◌, ℕ, ◌+◌, ◌<◌, ◌≤◌, List, [], ◌∷◌, map, arith, ◌∙◌, true}
use Rattle.buckets.specs.Row.{BucketRow}
use Rattle.buckets.specs.Spend.{Each}
use Rattle.buckets.specs.Holding.{held_in, IsWithin, settled_row}
use Rattle.buckets.specs.declared.kind.Due.{Due}
use Rattle.reserving.specs.declared.session.SessionGroup.{SessionGroup}
use Rattle.reserving.specs.declared.session.Counter.{Counter}
use Rattle.ledger.specs.Pricing.{cycle_at}
use Rattle.reserving.specs.Sessions.{is_of, is_counter, held_by}
use Rattle.reserving.specs.Changes.{group_or_new, used_in, reserved_in, count_in, with_event}
use Rattle.reserving.specs.Changes.{debited_account}
use Rattle.reserving.specs.Rows.{AccountRows, IsAccount}
use Rattle.reserving.specs.Sessions.{group_before, counter_before}
use Rattle.reserving.proofs.InOrder.{order_map, order_or_new}
use Rattle.reserving.proofs.Lists.{EachIn-put}
use Rattle.reserving.proofs.Keys.{own_key, own_cycle}
use Rattle.reserving.proofs.kept.Settled.{IsSound-settled, IsBelow-map, settled_reserved}
use Rattle.reserving.proofs.kept.Settled.{settled_number, held_by_number, held_by-put}
use Rattle.reserving.proofs.kept.Settled.{AreApart-put_group}
use Rattle.reserving.proofs.kept.Settled.{AreApart-put_counter}

pub within_none : (rows : List BucketRow) → IsWithin [] rows
within_none [] = tt
within_none (b ∷ bs) = (omega arith, within_none bs)

-- rows that hold what others hold
each_same : (rows after : List SessionGroup) (does : BucketRow → BucketRow) (xs : List BucketRow) →
    ((b : BucketRow) → held_by (λ s. true) after b ≡ held_by (λ s. true) rows b) →
    ((b : BucketRow) → (does b).number ≡ b.number) → ((b : BucketRow) →
    (does b).reserved ≡ b.reserved) →
    Each (λ b. held_by (λ s. true) rows b ≡ b.reserved) xs →
    Each (λ b. held_by (λ s. true) after b ≡ b.reserved) (map does xs)
each_same rows after does [] e k r h = tt
each_same rows after does (b ∷ bs) e k r h =
    let is : held_by (λ s. true) rows b ≡ b.reserved = h.0 in (
      omega (arith, held_by_number after b (does b) (k b), r b, e b),
      each_same rows after does bs e k r h.1,
    )

-- an event's use holds what was held
held_event : (s : List ℕ) (g units : ℕ) (rows : List SessionGroup) (b : BucketRow) →
    held_by (λ s. true) (with_event s g units rows) b ≡ held_by (λ s. true) rows b
held_event s g units rows b =
    let row : SessionGroup =
    record {
      session = s;
      group = g;
      used = used_in s g rows + units;
      reservation = (group_or_new s g rows).reservation;
    } in
    let same : held_by (λ s. true) (with_event s g units rows) b + held_in (reserved_in s g rows) b
    ≡ held_by (λ s. true) rows b + held_in (reserved_in s g rows) b =
    held_by-put s g row rows b in
    omega arith

pub IsAccount-debited : (a : AccountRows) (session : List ℕ) (group units blocks : ℕ) (due : Due) →
    used_in session group a.groups + units ≤ 1000000000000000000 →
    count_in group (cycle_at a.shelf group a.as_of) a.counters + blocks ≤ 4000000000000000000 →
    a.next_charge < 4294967296 →
    IsAccount a → IsAccount (debited_account session group units blocks due a)
IsAccount-debited a session group units blocks due used_fits count_fits charge_fits h =
    let cycle : ℕ = cycle_at a.shelf group a.as_of in
    let row : SessionGroup =
    record {
      session = session;
      group = group;
      used = used_in session group a.groups + units;
      reservation = (group_or_new session group a.groups).reservation;
    } in
    let count : Counter =
    record { group = group; cycle = cycle; blocks = count_in group cycle a.counters + blocks }
    in
    let does : BucketRow → BucketRow = settled_row [] group a.as_of due a.buckets in
    record {
      shelf = h.shelf;
      sound = IsSound-settled [] group a.as_of due a.buckets (within_none a.buckets) h.sound;
      below = IsBelow-map a.next_bucket does a.buckets
          (settled_number [] group a.as_of due a.buckets) h.below;
      next_bucket = h.next_bucket;
      next_charge = omega arith;
      sessions = h.sessions;
      groups = AreApart-put_group session group row a.groups (own_key session group) h.groups;
      counters =
          AreApart-put_counter group cycle count a.counters (own_cycle group cycle) h.counters;
      used = EachIn-put (λ r. r.used ≤ 1000000000000000000) group_before (is_of session group) row
          a.groups
          used_fits h.used;
      counted =
          EachIn-put (λ r. r.blocks ≤ 4000000000000000000) counter_before (is_counter group cycle)
          count a.counters
          count_fits h.counted;
      held = each_same a.groups (with_event session group units a.groups) does a.buckets
          (held_event session group units a.groups)
          (settled_number [] group a.as_of due a.buckets)
          (λ b. settled_reserved [] group a.as_of due a.buckets b ∙ omega arith) h.held;
      named = λ b le. held_event session group units a.groups b ∙ h.named b le;
      order = order_map does a.buckets (with_event session group units a.groups)
          (settled_number [] group a.as_of due a.buckets)
          (EachIn-put _ group_before (is_of session group) row a.groups
          (order_or_new session group a.buckets a.groups h.order) h.order);
    }
