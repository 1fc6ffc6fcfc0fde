-- A grant, and a debit, leave the rows that were left as they are.
use Rattle.std.proofs.Common.{◌≡◌, ℕ, ◌+◌, true, false, List, [], ◌∷◌, ◌++◌, map, refl}
use Rattle.std.proofs.Common.{sym, subst, ◌∙◌, arith, Some}
use Rattle.std.specs.List.Sorted.{IsPermutation}
use Rattle.std.proofs.lemmas.List.Sorted.{IsPermutation-refl}
use Rattle.std.specs.Prelude.{◌-◌}
use Rattle.ledger.specs.declared.terms.Terms.{Terms}
use Rattle.buckets.specs.declared.holds.HeldAmount.{HeldAmount}
use Rattle.buckets.specs.Row.{BucketRow, eligible_amount, with_hold}
use Rattle.buckets.specs.Share.{share, parts}
use Rattle.buckets.specs.Spend.{Each, held_rows}
use Rattle.buckets.specs.Holding.{holds_of}
use Rattle.buckets.proofs.SharesAlong.{KeepsPlace}
use Rattle.buckets.specs.declared.kind.Due.{Due}
use Rattle.reserving.specs.declared.session.SessionGroup.{SessionGroup}
use Rattle.reserving.specs.Keyed.{put}
use Rattle.ledger.specs.Pricing.{terms_at, validity_of}
use Rattle.reserving.specs.Sessions.{is_of, is_live_in}
use Rattle.reserving.specs.Changes.{used_in, with_reservation, reserved_account}
use Rattle.ledger.specs.Lists.{EachIn}
use Rattle.reserving.specs.Rows.{AccountRows}
use Rattle.ledger.specs.Laws.{IsDead}
use Rattle.reserving.specs.Left.{LeftRows, merged, joined, IsLeft}
use Rattle.reserving.specs.Sessions.{group_before}
use Rattle.ledger.proofs.DeadRows.{min_none}
use Rattle.reserving.proofs.LeftMerged.{map_merged, each_map, share_merged, dead_amount}
use Rattle.reserving.proofs.Reordered.{put_behind}
use Rattle.reserving.proofs.order.SameRows.{IsReordered}
use Rattle.reserving.proofs.LeftFrames.{not_of_live, row_same}
use Rattle.reserving.proofs.InOrder.{parts_placed}

-- ---- shares as holds

parts_merged : (f : BucketRow → ℕ) (left rows : List BucketRow) → Each (λ b. f b ≡ 0) left →
    parts f (merged left rows) ≡ parts f rows
parts_merged f [] rows h = refl
parts_merged f (b ∷ bs) rows h = parts_placed f b (merged bs rows) h.0 ∙ parts_merged f bs rows h.1

pub holds_merged : (group at : ℕ) (due : Due) (left rows : List BucketRow) → Each IsDead left →
    holds_of group at due (merged left rows) ≡ holds_of group at due rows
holds_merged group at due left rows dead =
    (λ i. parts
    (λ b. share_merged (eligible_amount group at) left rows due b
    (dead_amount group at left dead) i) (merged left rows))
    ∙ parts_merged (share (eligible_amount group at) rows due) left rows
    (each_map (λ b. eligible_amount group at b ≡ 0)
    (λ b. share (eligible_amount group at) rows due b ≡ 0) left
    (λ b e. min_none (eligible_amount group at b) _ e) (dead_amount group at left dead))

-- ---- buckets

hold_none : (b : BucketRow) (n : ℕ) → n ≡ 0 → with_hold b n ≡ b
hold_none b n e =
    let a : b.available - n ≡ b.available = omega (arith, e) in
    let r : b.reserved + n ≡ b.reserved = omega (arith, e) in
    λ i. record b { available = a i; reserved = r i }

hold_keeps : (f : BucketRow → ℕ) → KeepsPlace (λ b. with_hold b (f b))
hold_keeps f = record { number = λ b. refl; until = λ b. refl }

pub held_merged : (group at : ℕ) (due : Due) (left rows : List BucketRow) → Each IsDead left →
    held_rows group at due (merged left rows) ≡ merged left (held_rows group at due rows)
held_merged group at due left rows dead =
    (λ i. map
    (λ b. with_hold b
    (share_merged (eligible_amount group at) left rows due b (dead_amount group at left dead)
    i)) (merged left rows))
    ∙ map_merged (λ b. with_hold b (share (eligible_amount group at) rows due b))
    (hold_keeps (share (eligible_amount group at) rows due)) left rows
    (each_map (λ b. eligible_amount group at b ≡ 0)
    (λ b. with_hold b (share (eligible_amount group at) rows due b) ≡ b) left
    (λ b e. hold_none b _ (min_none (eligible_amount group at b) _ e))
    (dead_amount group at left dead))

-- ---- the grant

-- rule: database-loads.with
pub reserved_joined : (left : LeftRows) (a : AccountRows) (s : List ℕ) (g : ℕ) (due : Due) →
    IsLeft left a → is_live_in (validity_of a.shelf) a.as_of a.sessions s ≡ true →
    IsReordered (reserved_account s g due (joined left a))
    (joined left (reserved_account s g due a))
reserved_joined left a s g due h alive =
    let p : Terms = terms_at a.shelf a.as_of in
    let not_of : EachIn (λ r. is_of s g r ≡ false) left.groups =
    not_of_live left a a.as_of s g h alive in
    let hs : List HeldAmount = holds_of g a.as_of due a.buckets in
    let same : holds_of g a.as_of due (merged left.buckets a.buckets) ≡ hs =
    holds_merged g a.as_of due left.buckets a.buckets h.dead in
    let row : SessionGroup =
    record {
      session = s;
      group = g;
      used = used_in s g a.groups;
      reservation = Some (record { terms = p; holds = hs });
    } in
    let moved : with_reservation s g p (holds_of g a.as_of due (merged left.buckets a.buckets))
    (left.groups ++ a.groups) ≡ put group_before (is_of s g) row (left.groups ++ a.groups) =
    (λ i. put group_before (is_of s g)
    (record {
      session = s;
      group = g;
      used = (row_same left a h s g not_of i).used;
      reservation = Some (record { terms = p; holds = same i });
    }) (left.groups ++ a.groups)) in
    record {
      same = λ i. record (joined left a) {
        buckets = held_merged g a.as_of due left.buckets a.buckets h.dead i;
        groups = left.groups ++ with_reservation s g p hs a.groups;
      };
      counters = IsPermutation-refl (left.counters ++ a.counters);
      sessions = IsPermutation-refl (left.sessions ++ a.sessions);
      groups = subst (λ xs. IsPermutation xs (left.groups ++ with_reservation s g p hs a.groups))
          (sym moved) (put_behind group_before (is_of s g) row left.groups a.groups not_of);
    }
