-- Rows that are written over those with their keys: what is found, and what is kept.
use Rattle.std.proofs.Common.{◌≡◌, ◌≤◌, ℕ, ◌+◌, ◌==◌, ◌&&◌, Bool, true, false, List, [], ◌∷◌}
use Rattle.std.proofs.Common.{Some, refl, sym, ap, ◌∙◌, arith, cond, nat_lt}
use Rattle.std.proofs.Common.{eqb-true, leb-true, nat_le, length, get_or, ◌<◌}
use Prim.Native.Nat.{suc, zero}
use Rattle.std.specs.Prelude.{if◌then◌else◌, filter, map, unwrap_or, sum_by, is_some, Result, Ok}
use Rattle.std.specs.Prelude.{Err, OnErr}
use Rattle.std.specs.List.{list_all, find}
use Rattle.std.proofs.lemmas.Bool.{and_parts}
use Rattle.buckets.specs.declared.holds.HeldAmount.{HeldAmount}
use Rattle.buckets.specs.Row.{BucketRow}
use Rattle.buckets.specs.Holding.{held_in}
use Rattle.buckets.specs.Spend.{Each, IsSound, IsBelow}
use Rattle.reserving.specs.declared.session.Session.{Session}
use Rattle.reserving.specs.declared.session.SessionGroup.{SessionGroup}
use Rattle.reserving.specs.declared.session.Counter.{Counter}
use Rattle.reserving.specs.Keyed.{put}
use Rattle.reserving.specs.Left.{first_of, bucket_in}
use Rattle.ledger.specs.Ledger.{is_same}
use Rattle.reserving.specs.Sessions.{holds_in, held_by, is_session, is_of, is_counter, group_in}
use Rattle.reserving.specs.Sessions.{session_in, counter_in}
use Rattle.reserving.specs.Sessions.{session_before, group_before, counter_before}
use Rattle.reserving.specs.Changes.{reserved_in, new_group}
use Rattle.ledger.specs.Lists.{EachIn}
use Rattle.reserving.specs.Rows.{AreApart, AreAscending, AreInKeyOrder, IsInOrderOf}
use Rattle.reserving.specs.Rows.{AreInOrderOf}
use Rattle.reserving.specs.Restored.{are_keys_ascending, are_in_range, are_along, are_ascending}
use Rattle.reserving.specs.Stored.{StoredRows, IsStored, IsStoredInOrder}
use Rattle.reserving.specs.Written.{written, rows_written, sessions_written, groups_written}
use Rattle.reserving.specs.Written.{counters_written, held_before, is_held_on, are_held_on}
use Rattle.reserving.specs.Written.{is_writable}
use Rattle.reserving.proofs.Lists.{find-put, find-put_other, EachIn-put, EachIn-weaker}
use Rattle.reserving.proofs.Lists.{each_none}
use Rattle.reserving.proofs.kept.Settled.{held_by_number, held_by-put}
use Rattle.reserving.proofs.order.Ascending.{IsKey, ascending_put, apart_of_ascending}
use Rattle.reserving.proofs.order.KeyRows.{session_key, own_group_key, own_counter_key}
use Rattle.reserving.proofs.order.KeyRows.{sessions_parted, groups_parted, counters_parted}
use Rattle.identifiers.proofs.Equality.{equal_names}
use Rattle.ledger.proofs.Names.{is_same-refl}
use Rattle.reserving.proofs.Keys.{is_key, is_key-sym, other_row, own_key}
use Rattle.reserving.proofs.Keys.{key_session, key_group, own_cycle, cycle_group, cycle_cycle}
use Rattle.reserving.proofs.Keys.{is_cycle}
use Rattle.reserving.proofs.Restored.{all_told, below_told, ascending_told, holds_told}
use Rattle.reserving.proofs.Restored.{held_nothing}

-- ---- any rows

pub ascending_written : {A : Type 0} (before same : A → A → Bool) →
    ((x : A) → IsKey before (same x) x) → (named rows : List A) → AreAscending before rows →
    AreAscending before (written before same named rows)
ascending_written before same key [] rows up = up
ascending_written before same key (x ∷ xs) rows up =
    ascending_written before same key xs (put before (same x) x rows)
    (ascending_put before (same x) x (key x) rows up)

pub EachIn-written : {A : Type 0} (P : A → Type 0) (before same : A → A → Bool)
    (named rows : List A) → EachIn P named → EachIn P rows →
    EachIn P (written before same named rows)
EachIn-written P before same [] rows n h = h
EachIn-written P before same (x ∷ xs) rows n h =
    EachIn-written P before same xs (put before (same x) x rows) n.1
    (EachIn-put P before (same x) x rows n.0 h)

-- what is found under a key: of the rows that are written, else of those before
find_alike : {A : Type 0} (q r : A → Bool) → ((y : A) → q y ≡ r y) → (xs : List A) →
    find q xs ≡ find r xs
find_alike q r e xs = λ i. find (λ y. e y i) xs

pub find_written : {A : Type 0} (before same : A → A → Bool) (q : A → Bool) →
    ((x : A) → same x x ≡ true) → ((x y : A) → q x ≡ true → q y ≡ same x y) →
    ((x y : A) → q x ≡ false → same x y ≡ true → q y ≡ false) → (named rows : List A) →
    AreApart same named →
    find q (written before same named rows) ≡ first_of (find q named) (find q rows)
find_written before same q own exact other [] rows apart = refl
find_written before same q own exact other (x ∷ xs) rows apart =
    find_written before same q own exact other xs (put before (same x) x rows) apart.1
    ∙ at (q x) refl
  where
    at : (t : Bool) → q x ≡ t →
        first_of (find q xs) (find q (put before (same x) x rows))
        ≡ first_of (cond t (Some x) (find q xs)) (find q rows)
    at true e =
        (λ i. first_of (find q xs)
        ((find_alike q (same x) (λ y. exact x y e) (put before (same x) x rows)
        ∙ find-put before (same x) x rows (own x)) i))
        ∙ ap (λ o. first_of o (Some x))
        (find_alike q (same x) (λ y. exact x y e) xs ∙ each_none (same x) xs apart.0)
    at false e = ap (first_of (find q xs))
        (find-put_other before (same x) q x rows e (λ y k. other x y e k))

pub session_found : (s : List ℕ) (named rows : List Session) →
    AreApart (λ x y. is_session x.id y) named →
    session_in s (sessions_written named rows)
    ≡ first_of (session_in s named) (session_in s rows)
session_found s named rows = find_written session_before (λ x y. is_session x.id y) (is_session s)
    (λ x. is_same-refl x.id)
    (λ x y e. λ i. is_same y.id (sym (equal_names x.id s e) i))
    (λ x y e k. (λ i. is_same (equal_names y.id x.id k i) s) ∙ e) named rows

pub group_found : (s : List ℕ) (g : ℕ) (named rows : List SessionGroup) →
    AreApart (λ x y. is_of x.session x.group y) named →
    group_in s g (groups_written named rows) ≡ first_of (group_in s g named) (group_in s g rows)
group_found s g named rows =
    find_written group_before (λ x y. is_of x.session x.group y) (is_of s g)
    (λ x. own_key x.session x.group)
    (λ x y e. λ i. is_of (sym (key_session x.session x.group s g e) i)
    (sym (key_group x.session x.group s g e) i) y)
    (λ x y e k. (λ i. is_key (key_session y.session y.group x.session x.group k i)
    (key_group y.session y.group x.session x.group k i) s g) ∙ e) named rows

pub counter_found : (g c : ℕ) (named rows : List Counter) →
    AreApart (λ x y. is_counter x.group x.cycle y) named →
    counter_in g c (counters_written named rows)
    ≡ first_of (counter_in g c named) (counter_in g c rows)
counter_found g c named rows =
    find_written counter_before (λ x y. is_counter x.group x.cycle y) (is_counter g c)
    (λ x. own_cycle x.group x.cycle)
    (λ x y e. λ i. is_counter (sym (cycle_group x.group x.cycle g c e) i)
    (sym (cycle_cycle x.group x.cycle g c e) i) y)
    (λ x y e k. (λ i. is_cycle (cycle_group y.group y.cycle x.group x.cycle k i)
    (cycle_cycle y.group y.cycle x.group x.cycle k i) g c) ∙ e) named rows

-- ---- what is held

-- under another key the same is found
pub other_kept : (r x : SessionGroup) (rows : List SessionGroup) →
    is_of r.session r.group x ≡ false →
    group_in x.session x.group (put group_before (is_of r.session r.group) r rows)
    ≡ group_in x.session x.group rows
other_kept r x rows e =
    let away : is_key r.session r.group x.session x.group ≡ false =
    is_key-sym r.session r.group x.session x.group ∙ e in
    find-put_other group_before (is_of r.session r.group) (is_of x.session x.group) r rows away
    (other_row r.session r.group x.session x.group away)

held_same : (r : SessionGroup) (xs rows : List SessionGroup) (b : BucketRow) →
    EachIn (λ x. is_of r.session r.group x ≡ false) xs →
    held_before xs (put group_before (is_of r.session r.group) r rows) b
    ≡ held_before xs rows b
held_same r [] rows b h = refl
held_same r (x ∷ xs) rows b h =
    let one : held_in (reserved_in x.session x.group
    (put group_before (is_of r.session r.group) r rows)) b
    ≡ held_in (reserved_in x.session x.group rows) b =
    ap (λ o. held_in (holds_in (unwrap_or o (new_group x.session x.group)).reservation) b)
    (other_kept r x rows h.0) in
    omega (arith, one, held_same r xs rows b h.1)

-- rule: database-writes.rows-written
pub held_written : (named rows : List SessionGroup) (b : BucketRow) →
    AreApart (λ x y. is_of x.session x.group y) named →
    held_by (λ s. true) (groups_written named rows) b + held_before named rows b
    ≡ held_by (λ s. true) rows b + held_by (λ s. true) named b
held_written [] rows b h = omega arith
held_written (x ∷ xs) rows b h =
    let rest : held_by (λ s. true)
    (groups_written xs (put group_before (is_of x.session x.group) x rows)) b
    + held_before xs (put group_before (is_of x.session x.group) x rows) b
    ≡ held_by (λ s. true) (put group_before (is_of x.session x.group) x rows) b
    + held_by (λ s. true) xs b =
    held_written xs (put group_before (is_of x.session x.group) x rows) b h.1 in
    let one : held_by (λ s. true) (put group_before (is_of x.session x.group) x rows) b
    + held_in (reserved_in x.session x.group rows) b
    ≡ held_by (λ s. true) rows b + held_in (holds_in x.reservation) b =
    held_by-put x.session x.group x rows b in
    let same : held_before xs (put group_before (is_of x.session x.group) x rows) b
    ≡ held_before xs rows b = held_same x xs rows b h.0 in
    omega (arith, rest, one, same)

-- ---- the buckets, of which none is new or gone

held_there : (named rows : List SessionGroup) (old new : List BucketRow) →
    AreApart (λ x y. is_of x.session x.group y) named →
    are_held_on named rows old new ≡ true →
    Each (λ b. held_by (λ s. true) rows b ≡ b.reserved) old →
    Each (λ b. held_by (λ s. true) (groups_written named rows) b ≡ b.reserved) new
held_there named rows [] [] apart e h = tt
held_there named rows [] (y ∷ ys) apart e h = absurd (cc)
held_there named rows (x ∷ xs) [] apart e h = absurd (cc)
held_there named rows (x ∷ xs) (y ∷ ys) apart e h =
    let both = and_parts (is_held_on named rows x y) (are_held_on named rows xs ys) e in
    let here = and_parts (x.number == y.number)
    (held_by (λ s. true) named y + x.reserved == y.reserved + held_before named rows y)
    both.0 in
    let number : y.number ≡ x.number = sym (eqb-true x.number y.number here.0) in
    let sum : held_by (λ s. true) named y + x.reserved
    ≡ y.reserved + held_before named rows y =
    eqb-true (held_by (λ s. true) named y + x.reserved)
    (y.reserved + held_before named rows y) here.1 in
    let was : held_by (λ s. true) rows y ≡ x.reserved =
    held_by_number rows x y number ∙ h.0 in
    let now : held_by (λ s. true) (groups_written named rows) y + held_before named rows y
    ≡ held_by (λ s. true) rows y + held_by (λ s. true) named y =
    held_written named rows y apart in
    (omega (arith, sum, was, now), held_there named rows xs ys apart both.1 h.1)

-- the same numbers are there
pub number_there : (n : ℕ) (named rows : List SessionGroup) (old new : List BucketRow) →
    are_held_on named rows old new ≡ true →
    is_some (bucket_in n old) ≡ is_some (bucket_in n new)
number_there n named rows [] [] e = refl
number_there n named rows [] (y ∷ ys) e = absurd (cc)
number_there n named rows (x ∷ xs) [] e = absurd (cc)
number_there n named rows (x ∷ xs) (y ∷ ys) e =
    let both = and_parts (is_held_on named rows x y) (are_held_on named rows xs ys) e in
    let here = and_parts (x.number == y.number)
    (held_by (λ s. true) named y + x.reserved == y.reserved + held_before named rows y)
    both.0 in
    let number : x.number ≡ y.number = eqb-true x.number y.number here.0 in
    ap (λ m. is_some (cond (m == n) (Some x) (bucket_in n xs))) number
    ∙ at (y.number == n) (number_there n named rows xs ys both.1)
  where
    at : (t : Bool) → is_some (bucket_in n xs) ≡ is_some (bucket_in n ys) →
        is_some (cond t (Some x) (bucket_in n xs)) ≡ is_some (cond t (Some y) (bucket_in n ys))
    at true k = refl
    at false k = k

-- so holds go along them as along those before
abbrev hold_of : List HeldAmount → BucketRow → HeldAmount
hold_of holds b = record { bucket = b.number; amount = held_in holds b }

same_hold : (holds : List HeldAmount) (x y : BucketRow) → x.number ≡ y.number →
    hold_of holds x ≡ hold_of holds y
same_hold holds x y number = λ i. record {
  bucket = number i;
  amount = sum_by (λ h. if h.bucket == number i then h.amount else 0) holds;
}

same_parts : (holds : List HeldAmount) (named rows : List SessionGroup) (old new : List BucketRow) →
    are_held_on named rows old new ≡ true → map (hold_of holds) old ≡ map (hold_of holds) new
same_parts holds named rows [] [] e = refl
same_parts holds named rows [] (y ∷ ys) e = absurd (cc)
same_parts holds named rows (x ∷ xs) [] e = absurd (cc)
same_parts holds named rows (x ∷ xs) (y ∷ ys) e =
    let both = and_parts (is_held_on named rows x y) (are_held_on named rows xs ys) e in
    let here = and_parts (x.number == y.number)
    (held_by (λ s. true) named y + x.reserved == y.reserved + held_before named rows y)
    both.0 in
    λ i. same_hold holds x y (eqb-true x.number y.number here.0) i
    ∷ same_parts holds named rows xs ys both.1 i

order_there : (named rows : List SessionGroup) (old new : List BucketRow) →
    are_held_on named rows old new ≡ true → (groups : List SessionGroup) →
    AreInOrderOf old groups → AreInOrderOf new groups
order_there named rows old new e groups h =
    EachIn-weaker (λ (r : SessionGroup). IsInOrderOf old (holds_in r.reservation))
    (λ (r : SessionGroup). IsInOrderOf new (holds_in r.reservation)) groups
    (λ r is. is ∙ ap (filter (λ (h : HeldAmount). nat_lt 0 h.amount))
    (same_parts (holds_in r.reservation) named rows old new e)) h

-- ---- all of it

-- rule: database-writes.rows-written
pub writable_told : (w v : StoredRows) → IsSound w.buckets → IsStoredInOrder v →
    is_writable w v ≡ true → IsStoredInOrder (rows_written w v)
writable_told w v sound kept e =
    let p1 = and_parts (are_keys_ascending w && are_in_range w
    && list_all (are_along w.buckets) w.groups)
    (are_held_on w.groups v.groups v.buckets w.buckets) e in
    let p2 = and_parts (are_keys_ascending w && are_in_range w)
    (list_all (are_along w.buckets) w.groups) p1.0 in
    let p3 = and_parts (are_keys_ascending w) (are_in_range w) p2.0 in
    let k1 = and_parts
    (are_ascending session_before w.sessions && are_ascending group_before w.groups)
    (are_ascending counter_before w.counters) p3.0 in
    let k2 = and_parts (are_ascending session_before w.sessions)
    (are_ascending group_before w.groups) k1.0 in
    let pairs : AreAscending group_before w.groups =
    ascending_told group_before (λ x. (own_group_key x).chain) w.groups k2.1 in
    let apart : AreApart (λ x y. is_of x.session x.group y) w.groups =
    apart_of_ascending group_before (λ x y. is_of x.session x.group y) groups_parted w.groups pairs
    in
    let r1 = and_parts (list_all (λ b. nat_lt b.number w.next_bucket) w.buckets
    && nat_le w.next_bucket 4_294_967_296 && nat_le w.next_charge 4_294_967_296
    && list_all (λ g. nat_le g.used 1_000_000_000_000_000_000) w.groups)
    (list_all (λ c. nat_le c.blocks 4_000_000_000_000_000_000) w.counters) p3.1 in
    let r2 = and_parts (list_all (λ b. nat_lt b.number w.next_bucket) w.buckets
    && nat_le w.next_bucket 4_294_967_296 && nat_le w.next_charge 4_294_967_296)
    (list_all (λ g. nat_le g.used 1_000_000_000_000_000_000) w.groups) r1.0 in
    let r3 = and_parts (list_all (λ b. nat_lt b.number w.next_bucket) w.buckets
    && nat_le w.next_bucket 4_294_967_296) (nat_le w.next_charge 4_294_967_296) r2.0 in
    let r4 = and_parts (list_all (λ b. nat_lt b.number w.next_bucket) w.buckets)
    (nat_le w.next_bucket 4_294_967_296) r3.0 in
    let below : IsBelow w.next_bucket w.buckets = below_told w.next_bucket w.buckets r4.0 in
    let own : AreInOrderOf w.buckets w.groups = all_told (are_along w.buckets)
    (λ r. IsInOrderOf w.buckets (holds_in r.reservation)) (λ r. holds_told _ _) w.groups p2.1 in
    let order : AreInOrderOf w.buckets (groups_written w.groups v.groups) =
    EachIn-written (λ (r : SessionGroup). IsInOrderOf w.buckets (holds_in r.reservation))
    group_before (λ x y. is_of x.session x.group y) w.groups v.groups own
    (order_there w.groups v.groups v.buckets w.buckets p1.1 v.groups kept.stored.order) in
    let keys : AreInKeyOrder (sessions_written w.sessions v.sessions)
    (groups_written w.groups v.groups) (counters_written w.counters v.counters) = record {
      by_name = ascending_written session_before (λ x y. is_session x.id y) session_key w.sessions
          v.sessions kept.keys.by_name;
      by_group = ascending_written group_before (λ x y. is_of x.session x.group y) own_group_key
          w.groups v.groups kept.keys.by_group;
      by_cycle = ascending_written counter_before (λ x y. is_counter x.group x.cycle y)
          own_counter_key w.counters v.counters kept.keys.by_cycle;
    } in
    let stored : IsStored (rows_written w v) = record {
      sound = sound;
      below = below;
      next_bucket = leb-true w.next_bucket 4_294_967_296 r4.1;
      next_charge = leb-true w.next_charge 4_294_967_296 r3.1;
      sessions = apart_of_ascending session_before (λ x y. is_session x.id y) sessions_parted
          (sessions_written w.sessions v.sessions) keys.by_name;
      groups = apart_of_ascending group_before (λ x y. is_of x.session x.group y) groups_parted
          (groups_written w.groups v.groups) keys.by_group;
      counters = apart_of_ascending counter_before (λ x y. is_counter x.group x.cycle y)
          counters_parted (counters_written w.counters v.counters) keys.by_cycle;
      used = EachIn-written (λ (g : SessionGroup). g.used ≤ 1000000000000000000) group_before
          (λ x y. is_of x.session x.group y) w.groups v.groups
          (all_told (λ g. nat_le g.used 1_000_000_000_000_000_000)
          (λ g. g.used ≤ 1000000000000000000) (λ g. leb-true g.used 1_000_000_000_000_000_000)
          w.groups r2.1) kept.stored.used;
      counted = EachIn-written (λ (c : Counter). c.blocks ≤ 4000000000000000000) counter_before
          (λ x y. is_counter x.group x.cycle y) w.counters v.counters
          (all_told (λ c. nat_le c.blocks 4_000_000_000_000_000_000)
          (λ c. c.blocks ≤ 4000000000000000000) (λ c. leb-true c.blocks 4_000_000_000_000_000_000)
          w.counters r1.1) kept.stored.counted;
      held = held_there w.groups v.groups v.buckets w.buckets apart p1.1 kept.stored.held;
      named = λ b above. held_nothing (groups_written w.groups v.groups) w.buckets w.next_bucket b
          below above order;
      order = order;
    } in
    record { stored = stored; keys = keys }

-- no two sessions that are written have one name
pub sessions_ascend : (w : StoredRows) → are_keys_ascending w ≡ true →
    AreApart (λ x y. is_session x.id y) w.sessions
sessions_ascend w e =
    let k1 = and_parts
    (are_ascending session_before w.sessions && are_ascending group_before w.groups)
    (are_ascending counter_before w.counters) e in
    let k2 = and_parts (are_ascending session_before w.sessions)
    (are_ascending group_before w.groups) k1.0 in
    apart_of_ascending session_before (λ x y. is_session x.id y) sessions_parted w.sessions
    (ascending_told session_before (λ x. (session_key x).chain) w.sessions k2.0)

-- ---- the writes, and the tests

pub no_rows : {A : Type 0} (xs : List A) → length xs ≡ 0 → xs ≡ []
no_rows [] e = refl
no_rows (x ∷ xs) e = absurd (omega (arith, e))

pub on_err : {T E P : Type 0} (r : Result T E) → P → OnErr r P
on_err (Ok x) p = tt
on_err (Err e) p = p

pub each_at : (P : BucketRow → Type 0) (xs : List BucketRow) (i : ℕ) (d : BucketRow) → Each P xs →
    i < length xs →
    P (get_or xs i d)
each_at P [] i d h lt = absurd (omega (arith, lt))
each_at P (x ∷ xs) zero d h lt = h.0
each_at P (x ∷ xs) (suc i) d h lt = each_at P xs i d h.1 (omega (arith, lt))

-- what is held of a bucket of the same number
pub held_now : (rows : List SessionGroup) (x y : BucketRow) (n : ℕ) → x.number ≡ y.number →
    n ≡ x.reserved → held_by (λ s. true) rows x ≡ x.reserved → held_by (λ s. true) rows y ≡ n
held_now rows x y n e r h = held_by_number rows x y (sym e) ∙ h ∙ sym r
