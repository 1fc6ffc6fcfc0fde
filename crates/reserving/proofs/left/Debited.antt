-- A debit's call, from a ledger whose rows the account's are together with those left.
use Rattle.std.proofs.Common.{◌≡◌, ℕ, ◌+◌, ◌≤◌, false, List, [], ◌++◌, refl, sym, ap, subst}
use Rattle.std.proofs.Common.{◌∙◌, arith, None}
use Rattle.std.specs.Prelude.{nat_le}
use Rattle.buckets.specs.Row.{BucketRow}
use Rattle.buckets.specs.Spend.{Each}
use Rattle.buckets.specs.Holding.{held_in}
use Rattle.std.specs.List.Sorted.{IsPermutation}
use Rattle.std.proofs.lemmas.List.Sorted.{IsPermutation-refl}
use Rattle.shelves.specs.Shelves.{Shelf}
use Rattle.rating.specs.declared.report.Rated.{Rated}
use Rattle.buckets.specs.Kinds.{due}
use Rattle.buckets.specs.declared.kind.Due.{Due}
use Rattle.reserving.specs.declared.session.SessionGroup.{SessionGroup}
use Rattle.reserving.specs.declared.settle.Settled.{Settled}
use Rattle.ledger.specs.Ledger.{Ledger}
use Rattle.reserving.specs.Keyed.{put}
use Rattle.ledger.specs.Pricing.{cycle_at, validity_of}
use Rattle.reserving.specs.Sessions.{is_of, group_in, is_live_in}
use Rattle.ledger.specs.Settlement.{passes, due_of}
use Rattle.reserving.specs.Changes.{advanced, group_or_new, used_in, count_in, with_event}
use Rattle.reserving.specs.Changes.{with_count}
use Rattle.reserving.specs.Changes.{rest_price_in, debited_account}
use Rattle.ledger.specs.Lists.{EachIn}
use Rattle.reserving.specs.Rows.{AccountRows, IsAccount}
use Rattle.reserving.specs.Results.{IsAnswered, IsDebitIn, IsDebitOf}
use Rattle.ledger.specs.Laws.{IsDead}
use Rattle.reserving.specs.Left.{LeftRows, joined, IsLeft, AreOfOtherCycles}
use Rattle.reserving.specs.Left.{IsBeside, IsWith}
use Rattle.reserving.specs.Sessions.{group_before}
use Rattle.reserving.proofs.kept.Debited.{IsAccount-debited}
use Rattle.reserving.proofs.calls.Debited.{debit_is}
use Rattle.reserving.proofs.calls.Settled.{within_used, within_counted}
use Rattle.reserving.proofs.calls.RowParts.{used_later}
use Rattle.reserving.proofs.LeftMerged.{each_map, settled_merged}
use Rattle.reserving.proofs.Reordered.{put_behind}
use Rattle.reserving.proofs.order.SameRows.{IsReordered, IsAccount-reordered, IsRowsOf-reordered}
use Rattle.reserving.proofs.order.SameRows.{AreKeysApart, keys_of}
use Rattle.reserving.proofs.LeftTests.{none_each}
use Rattle.reserving.proofs.LeftFrames.{row_same, count_joined, count_beside, advanced_joined}
use Rattle.reserving.proofs.LeftMore.{with_advanced}
use Rattle.reserving.proofs.left.Settled.{most_charge}
use Rattle.reserving.proofs.LeftReadings.{used_joined, rest_price_joined, funds_joined}

none_held : (left : List BucketRow) → Each IsDead left → Each (λ b. held_in [] b ≡ 0) left
none_held left dead = each_map IsDead (λ b. held_in [] b ≡ 0) left (λ b d. refl) dead

pub debited_joined : (left : LeftRows) (a : AccountRows) (s : List ℕ)
    (g units blocks : ℕ) (due : Due) →
    IsLeft left a → AreOfOtherCycles a.shelf a.as_of left.counters →
    EachIn (λ r. is_of s g r ≡ false) left.groups →
    IsReordered (debited_account s g units blocks due (joined left a))
    (joined left (debited_account s g units blocks due a))
debited_joined left a s g units blocks due h cycles not_of =
    let row : SessionGroup = group_or_new s g a.groups in
    let new : SessionGroup =
    record { session = s; group = g; used = row.used + units; reservation = row.reservation } in
    let moved : with_event s g units (left.groups ++ a.groups)
    ≡ put group_before (is_of s g) new (left.groups ++ a.groups) =
    (λ i. put group_before (is_of s g)
    (record {
      session = s;
      group = g;
      used = (row_same left a h s g not_of i).used + units;
      reservation = (row_same left a h s g not_of i).reservation;
    }) (left.groups ++ a.groups)) in
    record {
      same = λ i. record (joined left a) {
        buckets =
            settled_merged [] g a.as_of due left.buckets a.buckets h.dead
            (none_held left.buckets h.dead) i;
        counters = left.counters ++ with_count g (cycle_at a.shelf g a.as_of) blocks a.counters;
        groups = left.groups ++ with_event s g units a.groups;
        next_charge = a.next_charge + 1;
      };
      counters = count_joined left a h s g not_of cycles blocks;
      sessions = IsPermutation-refl (left.sessions ++ a.sessions);
      groups = subst (λ xs. IsPermutation xs (left.groups ++ with_event s g units a.groups))
          (sym moved) (put_behind group_before (is_of s g) new left.groups a.groups not_of);
    }

debit_reordered : (b : Shelf) (t : ℕ) (s : List ℕ) (g units : ℕ) (ledger : Ledger)
    (y z : AccountRows) (x : Settled) → IsReordered y z → AreKeysApart y →
    IsDebitOf b t s g units ledger y x → IsDebitOf b t s g units ledger z x
debit_reordered b t s g units ledger y z x r keys h = record {
  covered = h.covered;
  within = h.within;
  answer = h.answer;
  rows = IsRowsOf-reordered _ y z r keys h.rows;
}

pub debit_beside : (ledger : Ledger) (left : LeftRows) (a after : AccountRows) (s : List ℕ)
    (g t units : ℕ) (x : Settled) → a.as_of ≤ t →
    IsWith ledger left t a → group_in s g left.groups ≡ None → IsDebitIn s g units t a after x →
    IsBeside left t after × IsDebitOf a.shelf t s g units ledger (joined left after) x
debit_beside ledger left a after s g t units x le h gone made =
    let whole : AccountRows = joined left a in
    let later : AccountRows = advanced t a in
    let price : Rated = rest_price_in g units t a in
    let blocks : ℕ = price.blocks in
    let owed : Due = due_of price in
    let not_of : EachIn (λ y. is_of s g y ≡ false) left.groups =
    none_each (is_of s g) left.groups gone in
    let with_later : IsWith ledger left t later = with_advanced ledger left t a le h in
    let count : count_in g (cycle_at a.shelf g t) whole.counters
    ≡ count_in g (cycle_at a.shelf g t) a.counters =
    count_beside a.shelf t g left.counters a.counters h.cycles in
    let cost : rest_price_in g units t whole ≡ price =
    rest_price_joined left a g units t h.apart h.cycles in
    let same : debited_account s g units blocks owed (advanced t whole)
    ≡ debited_account s g units blocks owed (joined left later) =
    ap (debited_account s g units blocks owed) (advanced_joined t left a h.apart) in
    let moved : IsReordered (debited_account s g units blocks owed (joined left later))
    (joined left after) =
    subst (λ y. IsReordered (debited_account s g units blocks owed (joined left later))
    (joined left y)) (sym made.rows)
    (debited_joined left later s g units blocks owed with_later.apart h.cycles not_of) in
    let debited : IsDebitOf a.shelf t s g units ledger
    (debited_account s g units blocks owed (advanced t whole)) x =
    debit_is ledger whole (debited_account s g units blocks owed (advanced t whole)) s g t units x
    h.apart.whole h.rows le (record {
      covered =
          (λ i. nat_le (cost i).amount.0 (funds_joined left a g t h.apart i)) ∙ made.covered;
      within =
          (λ i. passes (used_joined left a s g h.apart not_of i) units (count i) (cost i).blocks
          a.next_charge) ∙ made.within;
      answer = subst (λ (y : Rated). IsAnswered y 0 x) (sym cost) made.answer;
      rows =
          λ i. debited_account s g units (sym cost i).blocks (due_of (sym cost i))
          (advanced t whole);
    }) in
    let used : used_in s g (joined left later).groups ≡ used_in s g a.groups =
    used_joined left later s g with_later.apart not_of
    ∙ used_later (is_live_in (validity_of a.shelf) t a.sessions) s g a.groups in
    let within : used_in s g a.groups + units ≤ 1000000000000000000 =
    within_used (used_in s g a.groups) units (count_in g (cycle_at a.shelf g t) a.counters)
    blocks a.next_charge made.within in
    let counted : count_in g (cycle_at a.shelf g t) a.counters + blocks ≤ 4000000000000000000 =
    within_counted (used_in s g a.groups) units (count_in g (cycle_at a.shelf g t) a.counters)
    blocks a.next_charge made.within in
    let account : IsAccount (debited_account s g units blocks owed (joined left later)) =
    IsAccount-debited (joined left later) s g units blocks owed
    (omega (arith, used, within)) (omega (arith, count, counted))
    (most_charge (used_in s g a.groups) units
    (count_in g (cycle_at a.shelf g t) a.counters) blocks
    a.next_charge made.within) with_later.apart.whole in
    let beside : IsBeside left t (debited_account s g units blocks owed later) = record {
      apart = record {
        dead = with_later.apart.dead;
        over = with_later.apart.over;
        apart = with_later.apart.apart;
        free = with_later.apart.free;
        others = with_later.apart.others;
        whole = IsAccount-reordered
            (debited_account s g units blocks owed (joined left later))
            (joined left (debited_account s g units blocks owed later))
            (debited_joined left later s g units blocks owed with_later.apart h.cycles not_of)
            account;
      };
      cycles = h.cycles;
    } in (
      subst (IsBeside left t) (sym made.rows) beside,
      debit_reordered a.shelf t s g units ledger
          (debited_account s g units blocks owed (joined left later)) (joined left after) x moved
          (keys_of (debited_account s g units blocks owed (joined left later)) account)
          (subst (λ y. IsDebitOf a.shelf t s g units ledger y x) same debited),
    )
