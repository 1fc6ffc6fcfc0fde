-- Calls on an account leave the rows that were left as they are.
use Rattle.std.proofs.Common.{◌≡◌, ℕ, ◌+◌, ◌≤◌, Bool, true, false, List, [], ◌∷◌, ◌++◌, map, refl}
use Rattle.std.proofs.Common.{sym, ap, subst, ◌∙◌, arith, Some, None}
use Rattle.std.specs.Prelude.{if◌then◌else◌, ◌==◌, ◌&&◌, not, unwrap_or, option_map}
use Rattle.std.specs.List.Sorted.{IsPermutation}
use Rattle.std.proofs.lemmas.List.Sorted.{IsPermutation-refl}
use Rattle.units.specs.declared.blocks.UsedPart.{UsedPart}
use Rattle.buckets.specs.declared.holds.HeldAmount.{HeldAmount}
use Rattle.buckets.specs.Row.{BucketRow, with_release, with_end}
use Rattle.buckets.specs.Spend.{Each, allowance}
use Rattle.buckets.specs.Holding.{held_in, settled_rows, released_rows, held_sum}
use Rattle.buckets.proofs.SharesAlong.{KeepsPlace, with_end_keeps, with_release_number}
use Rattle.buckets.proofs.SharesAlong.{with_release_until}
use Rattle.rating.specs.declared.report.Rated.{Rated}
use Rattle.buckets.specs.declared.kind.BucketKind.TheVariants.{Blocks}
use Rattle.buckets.specs.declared.kind.Due.{Due}
use Rattle.shelves.specs.Shelves.{Shelf}
use Rattle.reserving.specs.declared.session.Session.{Session}
use Rattle.reserving.specs.declared.session.SessionGroup.{SessionGroup}
use Rattle.reserving.specs.declared.session.Reservation.{Reservation}
use Rattle.reserving.specs.declared.session.Counter.{Counter}
use Rattle.ledger.specs.Ledger.{Ledger, is_same, is_live}
use Rattle.ledger.specs.Pricing.{cycle_at, validity_of}
use Rattle.reserving.specs.Keyed.{put}
use Rattle.reserving.specs.Sessions.{session_in, is_open, is_of, group_in, is_counter, is_live_in}
use Rattle.reserving.specs.Sessions.{is_live_row, holds_in, held_by}
use Rattle.ledger.specs.Settlement.{reported, price_of, settled_by, due_of}
use Rattle.reserving.specs.Changes.{advanced, lapse, lapse_group, lapsed_in, group_or_new}
use Rattle.reserving.specs.Changes.{new_group, used_in, reserved_in, count_in, price_in, with_use}
use Rattle.reserving.specs.Changes.{with_count, ended_group, ended_rows, settled_account}
use Rattle.reserving.specs.Changes.{settled_by_rows, coverable_in}
use Rattle.ledger.specs.Lists.{EachIn}
use Rattle.reserving.specs.Rows.{AccountRows, IsRowsOf}
use Rattle.reserving.proofs.Advancing.{held_by-split, is_live_in-is}
use Rattle.reserving.proofs.Lists.{not_both, EachIn-weaker}
use Rattle.ledger.proofs.Holds.{same_from, number_from}
use Rattle.reserving.proofs.SettledRows.{IsRowsOf-settled_by}
use Rattle.ledger.specs.Laws.{IsDead}
use Rattle.reserving.specs.Left.{LeftRows, merged, joined, IsLeft, AreOfOtherCycles}
use Rattle.reserving.specs.Sessions.{group_before, counter_before}
use Rattle.ledger.proofs.DeadRows.{release_none, end_dead}
use Rattle.reserving.proofs.LeftMerged.{map_merged, each_map, each_both, each_left}
use Rattle.reserving.proofs.LeftMerged.{settled_merged, released_merged}
use Rattle.reserving.proofs.LeftMerged.{sum_in-merged, allowance_merged}
use Rattle.reserving.proofs.LeftJoined.{find_behind, map_behind}
use Rattle.reserving.proofs.Reordered.{put_behind}
use Rattle.reserving.proofs.order.SameRows.{IsReordered, reordered_none, keys_settled}
use Rattle.reserving.proofs.order.SameRows.{IsRowsOf-reordered}
use Rattle.reserving.proofs.LeftJoined.{held_behind, live_behind}

-- a group that holds nothing stays as it is
pub lapse_free : (keeps : List ℕ → Bool) (r : SessionGroup) → r.reservation ≡ None →
    lapse_group keeps r ≡ r
lapse_free keeps r e = at (keeps r.session)
  where
    at : (k : Bool) → (if k then r else record r { reservation = None }) ≡ r
    at true = refl
    at false = λ i. record r { reservation = sym e i }

-- nothing of a live session was left
pub differs_from : (v : ℕ → ℕ) (t : ℕ) (rows : List Session) (s x : List ℕ) →
    is_live_in v t rows s ≡ true →
    session_in x rows ≡ None → is_same x s ≡ false
differs_from v t rows s x alive none = at (is_same x s) refl
  where
    at : (b : Bool) → is_same x s ≡ b → b ≡ false
    at true e =
        absurd (not_both
        (sym (ap (is_live_row v t) (ap (λ n. session_in n rows) (sym (same_from x s e)) ∙ none))
        ∙ alive))
    at false e = refl

pub not_of_live : (left : LeftRows) (a : AccountRows) (t : ℕ) (s : List ℕ) (g : ℕ) → IsLeft left a →
    is_live_in (validity_of a.shelf) t a.sessions s ≡ true →
    EachIn (λ r. is_of s g r ≡ false) left.groups
not_of_live left a t s g h alive =
    EachIn-weaker _ _ left.groups
    (λ r e. ap (λ b. b && r.group == g)
    (differs_from (validity_of a.shelf) t a.sessions s r.session alive e)) h.others

-- no counter of the cycle was left
pub not_counted : (shelf : Shelf) (t g : ℕ) (rows : List Counter) → AreOfOtherCycles shelf t rows →
    EachIn (λ r. is_counter g (cycle_at shelf g t) r ≡ false) rows
not_counted shelf t g rows cycles = EachIn-weaker _ _ rows other cycles
  where
    other : (r : Counter) → (r.cycle == cycle_at shelf r.group t) ≡ false →
        is_counter g (cycle_at shelf g t) r ≡ false
    other r e = at (r.group == g) refl
      where
        at : (b : Bool) → (r.group == g) ≡ b → (b && r.cycle == cycle_at shelf g t) ≡ false
        at true k = ap (λ n. r.cycle == cycle_at shelf n t) (sym (number_from r.group g k)) ∙ e
        at false k = refl

pub count_beside : (shelf : Shelf) (t g : ℕ) (left rows : List Counter) →
    AreOfOtherCycles shelf t left →
    count_in g (cycle_at shelf g t) (left ++ rows) ≡ count_in g (cycle_at shelf g t) rows
count_beside shelf t g left rows cycles =
    ap (λ o. unwrap_or (option_map (λ (r : Counter). r.blocks) o) 0)
    (find_behind (is_counter g (cycle_at shelf g t)) left rows (not_counted shelf t g left cycles))

module _ (left : LeftRows) (a : AccountRows) (h : IsLeft left a) where
  pub live : (t : ℕ) (s : List ℕ) →
      is_live_in (validity_of a.shelf) t (left.sessions ++ a.sessions) s
      ≡ is_live_in (validity_of a.shelf) t a.sessions s
  live t s = live_behind (validity_of a.shelf) t left.sessions a.sessions s h.over h.apart

  -- no reservation holds anything of a dead bucket
  pub unheld : Each (λ b. held_by (λ s. true) a.groups b ≡ 0) left.buckets
  unheld = each_both (λ b. held_by (λ s. true) (left.groups ++ a.groups) b ≡ b.reserved) IsDead
      (λ b. held_by (λ s. true) a.groups b ≡ 0) left.buckets
      (λ b e d. sym (held_behind (λ s. true) left.groups a.groups b h.free) ∙ e ∙ d.reserved)
      (each_left (λ b. held_by (λ s. true) (left.groups ++ a.groups) b ≡ b.reserved) left.buckets
      a.buckets h.whole.held) h.dead

  -- ---- time goes on

  module _ (t : ℕ) where
    abbrev keeps : List ℕ → Bool
    keeps = is_live_in (validity_of a.shelf) t a.sessions

    abbrev whole_keeps : List ℕ → Bool
    whole_keeps = is_live_in (validity_of a.shelf) t (left.sessions ++ a.sessions)

    abbrev later : BucketRow → BucketRow
    later b = with_end t (with_release t b (lapsed_in keeps a.groups b))

    lapsed_same : (b : BucketRow) →
        lapsed_in whole_keeps (left.groups ++ a.groups) b ≡ lapsed_in keeps a.groups b
    lapsed_same b =
        (λ i. held_by (λ s. not (live t s i)) (left.groups ++ a.groups) b)
        ∙ held_behind (λ s. not (keeps s)) left.groups a.groups b h.free

    later_keeps : KeepsPlace later
    later_keeps = record {
      number = λ b. (with_end_keeps t).number (with_release t b (lapsed_in keeps a.groups b))
          ∙ with_release_number t b (lapsed_in keeps a.groups b);
      until = λ b. (with_end_keeps t).until (with_release t b (lapsed_in keeps a.groups b))
          ∙ with_release_until t b (lapsed_in keeps a.groups b);
    }

    later_dead : (b : BucketRow) → held_by (λ s. true) a.groups b ≡ 0 → IsDead b → later b ≡ b
    later_dead b e d =
        let none : lapsed_in keeps a.groups b ≡ 0 =
        omega (arith, e, held_by-split keeps b a.groups) in
        ap (with_end t) (release_none t b (lapsed_in keeps a.groups b) none) ∙ end_dead t b d

    buckets_later : (advanced t (joined left a)).buckets
        ≡ merged left.buckets (advanced t a).buckets
    buckets_later =
        (λ i. map (λ b. with_end t (with_release t b (lapsed_same b i)))
        (merged left.buckets a.buckets))
        ∙ map_merged later later_keeps left.buckets a.buckets
        (each_both (λ b. held_by (λ s. true) a.groups b ≡ 0) IsDead (λ b. later b ≡ b)
        left.buckets later_dead unheld h.dead)

    lapse_over : (r : Session) → is_open r.state ≡ false → lapse (validity_of a.shelf) t r ≡ r
    lapse_over r e = rw e refl

    sessions_later : map (lapse (validity_of a.shelf) t) (left.sessions ++ a.sessions)
        ≡ left.sessions ++ map (lapse (validity_of a.shelf) t) a.sessions
    sessions_later =
        map_behind (lapse (validity_of a.shelf) t) left.sessions a.sessions
        (EachIn-weaker _ _ left.sessions lapse_over h.over)

    groups_later : map (lapse_group whole_keeps) (left.groups ++ a.groups)
        ≡ left.groups ++ map (lapse_group keeps) a.groups
    groups_later =
        (λ i. map (lapse_group (λ s. live t s i)) (left.groups ++ a.groups))
        ∙ map_behind (lapse_group keeps) left.groups a.groups
        (EachIn-weaker _ _ left.groups (lapse_free keeps) h.free)

  pub advanced_joined' : (t : ℕ) → advanced t (joined left a) ≡ joined left (advanced t a)
  advanced_joined' t =
      λ i. record (joined left a) {
        as_of = t;
        buckets = buckets_later t i;
        sessions = sessions_later t i;
        groups = groups_later t i;
      }

  -- ---- the groups of a session of which none was left, and counters of the cycle on

  module _ (s : List ℕ) (g : ℕ) (not_of : EachIn (λ r. is_of s g r ≡ false) left.groups) where
    pub row_same : group_or_new s g (left.groups ++ a.groups) ≡ group_or_new s g a.groups
    row_same =
        ap (λ o. unwrap_or o (new_group s g)) (find_behind (is_of s g) left.groups a.groups not_of)

    pub use_joined : (units : ℕ) →
        IsPermutation (with_use s g units (left.groups ++ a.groups))
        (left.groups ++ with_use s g units a.groups)
    use_joined units =
        let row : SessionGroup =
        record { session = s; group = g; used = used_in s g a.groups + units; reservation = None }
        in
        let same : with_use s g units (left.groups ++ a.groups)
        ≡ put group_before (is_of s g) row (left.groups ++ a.groups) =
        (λ i. put group_before (is_of s g)
        (record {
          session = s;
          group = g;
          used = (row_same i).used + units;
          reservation = None;
        }) (left.groups ++ a.groups)) in
        subst (λ xs. IsPermutation xs (left.groups ++ with_use s g units a.groups)) (sym same)
        (put_behind group_before (is_of s g) row left.groups a.groups not_of)

    abbrev holds : List HeldAmount
    holds = reserved_in s g a.groups

    pub holds_same : reserved_in s g (left.groups ++ a.groups) ≡ holds
    holds_same = ap (λ (r : SessionGroup). holds_in r.reservation) row_same

    one_held : (rows : List SessionGroup) (b : BucketRow) →
        held_in (reserved_in s g rows) b ≤ held_by (λ x. true) rows b
    one_held [] b = omega arith
    one_held (r ∷ rs) b = at (is_of s g r) (one_held rs b)
      where
        at : (t : Bool) → held_in (reserved_in s g rs) b ≤ held_by (λ x. true) rs b →
            held_in (holds_in
            (unwrap_or (if t then Some r else group_in s g rs) (new_group s g)).reservation) b
            ≤ held_in (holds_in r.reservation) b + held_by (λ x. true) rs b
        at true le = omega arith
        at false le = omega (arith, le)

    pub holds_none : Each (λ b. held_in holds b ≡ 0) left.buckets
    holds_none =
        each_map (λ b. held_by (λ x. true) a.groups b ≡ 0) (λ b. held_in holds b ≡ 0) left.buckets
        (λ b e. omega (arith, e, one_held a.groups b)) unheld

    pub cover_same : (t : ℕ) → coverable_in s g t (joined left a) ≡ coverable_in s g t a
    cover_same t = λ i. held_same i + allowed_same i
      where
        held_same : held_sum Blocks (reserved_in s g (left.groups ++ a.groups))
            (merged left.buckets a.buckets) ≡ held_sum Blocks holds a.buckets
        held_same =
            (λ i. held_sum Blocks (holds_same i) (merged left.buckets a.buckets))
            ∙ sum_in-merged Blocks (held_in holds) left.buckets a.buckets holds_none

        allowed_same : allowance g t (advanced t (joined left a)).buckets
            ≡ allowance g t (advanced t a).buckets
        allowed_same =
            ap (λ (x : AccountRows). allowance g t x.buckets) (advanced_joined' t)
            ∙ allowance_merged g t left.buckets (advanced t a).buckets h.dead

    settled_buckets : (due : Due) →
        settled_rows (reserved_in s g (left.groups ++ a.groups)) g a.as_of due
        (merged left.buckets a.buckets)
        ≡ merged left.buckets (settled_rows holds g a.as_of due a.buckets)
    settled_buckets due =
        (λ i. settled_rows (holds_same i) g a.as_of due (merged left.buckets a.buckets))
        ∙ settled_merged holds g a.as_of due left.buckets a.buckets h.dead holds_none

    ended_joined : ended_rows s g (joined left a) ≡ joined left (ended_rows s g a)
    ended_joined =
        let buckets : released_rows (reserved_in s g (left.groups ++ a.groups)) a.as_of
        (merged left.buckets a.buckets)
        ≡ merged left.buckets (released_rows holds a.as_of a.buckets) =
        (λ i. released_rows (holds_same i) a.as_of (merged left.buckets a.buckets))
        ∙ released_merged holds a.as_of left.buckets a.buckets holds_none in
        let groups : map (ended_group s g) (left.groups ++ a.groups)
        ≡ left.groups ++ map (ended_group s g) a.groups =
        map_behind (ended_group s g) left.groups a.groups
        (EachIn-weaker _ _ left.groups
        (λ r e. ap (λ t. if t then record r { reservation = None } else r) e) not_of) in
        λ i. record (joined left a) { buckets = buckets i; groups = groups i }

    module _ (cycles : AreOfOtherCycles a.shelf a.as_of left.counters) where
      pub count_same : count_in g (cycle_at a.shelf g a.as_of) (left.counters ++ a.counters)
          ≡ count_in g (cycle_at a.shelf g a.as_of) a.counters
      count_same = count_beside a.shelf a.as_of g left.counters a.counters cycles

      pub count_joined : (blocks : ℕ) →
          IsPermutation
          (with_count g (cycle_at a.shelf g a.as_of) blocks (left.counters ++ a.counters))
          (left.counters ++ with_count g (cycle_at a.shelf g a.as_of) blocks a.counters)
      count_joined blocks =
          let c : ℕ = cycle_at a.shelf g a.as_of in
          let row : Counter =
          record { group = g; cycle = c; blocks = count_in g c a.counters + blocks } in
          let same : with_count g c blocks (left.counters ++ a.counters)
          ≡ put counter_before (is_counter g c) row (left.counters ++ a.counters) =
          (λ i. put counter_before (is_counter g c)
          (record { group = g; cycle = c; blocks = count_same i + blocks })
          (left.counters ++ a.counters)) in
          subst (λ xs. IsPermutation xs (left.counters ++ with_count g c blocks a.counters))
          (sym same)
          (put_behind counter_before (is_counter g c) row left.counters a.counters
          (not_counted a.shelf a.as_of g left.counters cycles))

      pub settled_joined : (units blocks : ℕ) (due : Due) →
          IsReordered (settled_account s g units blocks due (joined left a))
          (joined left (settled_account s g units blocks due a))
      settled_joined units blocks due = record {
        same = λ i. record (joined left a) {
          buckets = settled_buckets due i;
          counters = left.counters
              ++ with_count g (cycle_at a.shelf g a.as_of) blocks a.counters;
          groups = left.groups ++ with_use s g units a.groups;
          next_charge = a.next_charge + 1;
        };
        counters = count_joined blocks;
        sessions = IsPermutation-refl (left.sessions ++ a.sessions);
        groups = use_joined units;
      }

      price_same : (used_parts : List UsedPart) →
          price_in s g a.as_of used_parts (joined left a) ≡ price_in s g a.as_of used_parts a
      price_same used_parts =
          λ i. price_of a.shelf a.as_of g
          (option_map (λ (r : Reservation). r.terms) (row_same i).reservation)
          (row_same i).used (count_same i) (cover_same a.as_of i) used_parts

      pub by_parts : (used_parts : List UsedPart) →
          IsReordered (settled_by_rows s g used_parts (joined left a))
          (joined left (settled_by_rows s g used_parts a))
      by_parts [] = reordered_none (ended_rows s g (joined left a))
          (joined left (ended_rows s g a)) ended_joined
      by_parts (p ∷ ps) =
          let x : Rated = price_in s g a.as_of (p ∷ ps) a in
          subst (λ (y : Rated). IsReordered
          (settled_account s g (reported (p ∷ ps)) y.blocks (due_of y) (joined left a))
          (joined left (settled_account s g (reported (p ∷ ps)) x.blocks (due_of x) a)))
          (sym (price_same (p ∷ ps)))
          (settled_joined (reported (p ∷ ps)) x.blocks (due_of x))

pub advanced_joined : (t : ℕ) (left : LeftRows) (a : AccountRows) → IsLeft left a →
    advanced t (joined left a) ≡ joined left (advanced t a)
advanced_joined t left a h = advanced_joined' left a h t

pub settled_by_joined : (left : LeftRows) (a : AccountRows) (s : List ℕ) (g : ℕ)
    (used_parts : List UsedPart) → IsLeft left a → AreOfOtherCycles a.shelf a.as_of left.counters →
    is_live_in (validity_of a.shelf) a.as_of a.sessions s ≡ true →
    IsReordered (settled_by_rows s g used_parts (joined left a))
    (joined left (settled_by_rows s g used_parts a))
settled_by_joined left a s g used_parts h cycles alive =
    by_parts left a h s g (not_of_live left a a.as_of s g h alive) cycles used_parts

-- the old theorem, at the whole account
pub settled_with_left : (ledger : Ledger) (left : LeftRows) (a : AccountRows) (s : List ℕ) (g : ℕ)
    (used_parts : List UsedPart) → IsLeft left a → AreOfOtherCycles a.shelf a.as_of left.counters →
    is_live_in (validity_of a.shelf) a.as_of a.sessions s ≡ true → IsRowsOf ledger (joined left a) →
    IsRowsOf (settled_by a.shelf a.as_of s g used_parts ledger)
    (joined left (settled_by_rows s g used_parts a))
settled_with_left ledger left a s g used_parts h cycles alive rows =
    let now : a.as_of ≤ a.as_of = omega arith in
    let whole_live : is_live (validity_of a.shelf) a.as_of ledger s ≡ true =
    sym (is_live_in-is ledger (joined left a) a.as_of s rows now) ∙ live left a h a.as_of s
    ∙ alive in
    IsRowsOf-reordered (settled_by a.shelf a.as_of s g used_parts ledger)
    (settled_by_rows s g used_parts (joined left a))
    (joined left (settled_by_rows s g used_parts a))
    (settled_by_joined left a s g used_parts h cycles alive)
    (keys_settled s g used_parts (joined left a) h.whole)
    (IsRowsOf-settled_by ledger (joined left a) s g used_parts h.whole rows whole_live)
