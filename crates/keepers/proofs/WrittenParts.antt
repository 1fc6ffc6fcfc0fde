-- Rows that are written over the live ones of an account: what is found, and what is kept.
use Rattle.std.proofs.Common.{◌≡◌, ℕ, Bool, true, false, List, [], ◌∷◌, ◌++◌, refl, sym}
use Rattle.std.proofs.Common.{ap, subst, ◌∙◌, Option, Some, None}
use Rattle.std.specs.Prelude.{if◌then◌else◌, ◌==◌, ◌&&◌, not, filter, is_some, option_map}
use Rattle.std.specs.List.{find, list_any}
use Rattle.std.specs.List.Sorted.{IsPermutation}
use Rattle.std.proofs.lemmas.Bool.{and_parts, not-true}
use Rattle.buckets.specs.Row.{BucketRow}
use Rattle.reserving.specs.declared.session.Session.{Session}
use Rattle.reserving.specs.declared.session.SessionGroup.{SessionGroup}
use Rattle.reserving.specs.declared.session.Counter.{Counter}
use Rattle.reserving.specs.Sessions.{is_session, is_of, is_counter, session_in, group_in}
use Rattle.reserving.specs.Sessions.{counter_in, session_before, group_before, counter_before}
use Rattle.ledger.specs.Lists.{EachIn}
use Rattle.reserving.specs.Rows.{AreApart}
use Rattle.reserving.specs.Stored.{StoredRows, IsStored, IsStoredInOrder}
use Rattle.reserving.specs.Left.{is_dead, only, first_of, bucket_in}
use Rattle.reserving.specs.declared.restoring.GivenRows.{GivenRows}
use Rattle.reserving.specs.Restored.{given}
use Rattle.reserving.specs.Written.{written, rows_written, are_held_on, is_writable}
use Rattle.reserving.proofs.Lists.{not_both, no_some, find-passes, EachIn-found, EachIn-weaker}
use Rattle.reserving.proofs.Lists.{none_passing, none_each, each_none}
use Rattle.ledger.proofs.Holds.{same_from}
use Rattle.reserving.proofs.Keys.{second_true, same_number}
use Rattle.reserving.proofs.KeysFound.{is_none_is}
use Rattle.reserving.proofs.LeftTests.{apart_append}
use Rattle.reserving.proofs.LeftParted.{one_session, one_group, one_counter, find_both}
use Rattle.reserving.proofs.LeftMore.{apart_none}
use Rattle.reserving.proofs.Reordered.{find_reordered}
use Rattle.reserving.proofs.WrittenOver.{EachIn-written, session_found, group_found, counter_found}
use Rattle.reserving.proofs.WrittenOver.{number_there}
use Rattle.keepers.specs.declared.left_rows.LeftStore.{LeftStore}
use Rattle.keepers.specs.declared.known.Known.{Known}
use Rattle.keepers.specs.Tables.{head_of, group_row, held_of}
use Rattle.keepers.specs.Change.{over}
use Rattle.keepers.specs.Parts.{Parts, AreParts, rows_of_parts}
use Rattle.keepers.specs.Named.{Names, Numbers, is_named, is_numbered}
use Rattle.keepers.specs.Named.{AreLeftCounters, AreLeftSessions, AreLeftGroups}
use Rattle.keepers.specs.Inside.{parts_by, AreKeptBy}
use Rattle.keepers.specs.Keyed.{same_bucket, same_session, same_group, same_counter}
use Rattle.keepers.specs.Naming.{AreRowsApart, IsNamed}
use Rattle.keepers.specs.Overlaying.{stays_bucket, is_fresh, IsGivenOver}
use Rattle.keepers.proofs.Found.{one_bucket, apart_first, apart_rest, distinct_apart}
use Rattle.keepers.proofs.Fresh.{AreFresh, are_fresh, left_sessions, left_groups, alike_session}
use Rattle.keepers.proofs.Fresh.{alike_group}
use Rattle.keepers.proofs.GroupRows.{row_over, held_over_is}
use Rattle.keepers.proofs.Overlaid.{found_over}
use Rattle.keepers.proofs.PartsKept.{apart_with}

-- ---- rows of one kind

each_rest : {A : Type 0} (P : A → Type 0) (xs ys : List A) → EachIn P (xs ++ ys) → EachIn P ys
each_rest P [] ys h = h
each_rest P (x ∷ xs) ys h = each_rest P xs ys h.1

pub across : {A : Type 0} (same : A → A → Bool) (xs ys : List A) → AreApart same (xs ++ ys) →
    EachIn (λ x. EachIn (λ y. same x y ≡ false) ys) xs
across same [] ys h = tt
across same (x ∷ xs) ys h = (each_rest (λ y. same x y ≡ false) xs ys h.0, across same xs ys h.1)

pub both_each : {A : Type 0} (P Q R : A → Type 0) (xs : List A) → ((x : A) → P x → Q x → R x) →
    EachIn P xs → EachIn Q xs → EachIn R xs
both_each P Q R [] k p q = tt
both_each P Q R (x ∷ xs) k p q = (k x p.0 q.0, both_each P Q R xs k p.1 q.1)

not_same : (t : Bool) → (t ≡ true → false ≡ true) → t ≡ false
not_same false k = refl
not_same true k = absurd (not_both (k refl))

module _ {A : Type 0} (before same : A → A → Bool) (known : A → Bool)
    (alike : (x y : A) → same x y ≡ true → known y ≡ known x) (left named live : List A)
    (told : EachIn (λ y. known y ≡ true) left) (fresh : list_any known named ≡ false) where
  -- none that is named has a key of one that was left
  pub none_there : (y : A) → known y ≡ true → EachIn (λ z. same y z ≡ false) named
  none_there y e = EachIn-weaker (λ z. known z ≡ false) (λ z. same y z ≡ false) named
      (λ z f. not_same (same y z) (λ k. sym f ∙ alike y z k ∙ e)) (none_passing known named fresh)

  apart_written : AreApart same (left ++ live) → AreApart same (written before same named live) →
      AreApart same (left ++ written before same named live)
  apart_written h n = apart_append same left (written before same named live)
      (apart_first same left live h) n
      (both_each (λ y. known y ≡ true) (λ y. EachIn (λ z. same y z ≡ false) live)
      (λ y. EachIn (λ z. same y z ≡ false) (written before same named live)) left
      (λ y e g. EachIn-written (λ z. same y z ≡ false) before same named live (none_there y e) g)
      told (across same left live h))

  -- so what is found among those left isn't named
  pub unnamed : (q : A → Bool) → ((x y : A) → q x ≡ true → q y ≡ true → same x y ≡ true) → (z : A) →
      find q named ≡ Some z → find q left ≡ None
  unnamed q one z e = at (find q left) refl
    where
      at : (o : Option A) → find q left ≡ o → o ≡ None
      at None f = refl
      at (Some y) f = absurd (not_both
          (sym (EachIn-found (λ x. known x ≡ false) q named z (none_passing known named fresh) e)
          ∙ alike y z (one y z (find-passes q left y f) (find-passes q named z e))
          ∙ EachIn-found (λ x. known x ≡ true) q left y told f))

-- what is written is found before what was left
turned : {A : Type 0} (l n v : Option A) → ((z : A) → n ≡ Some z → l ≡ None) →
    first_of l (first_of n v) ≡ first_of n (first_of l v)
turned None n v k = refl
turned (Some y) None v k = refl
turned (Some y) (Some z) v k = absurd (no_some y (sym (k z refl)))

written_is : {A : Type 0} (q : A → Bool) (left named live new : List A) →
    find q new ≡ first_of (find q named) (find q live) →
    ((z : A) → find q named ≡ Some z → find q left ≡ None) →
    find q (left ++ new) ≡ first_of (find q named) (find q (left ++ live))
written_is q left named live new e k =
    find_both q left new ∙ ap (first_of (find q left)) e
    ∙ turned (find q left) (find q named) (find q live) k
    ∙ ap (first_of (find q named)) (sym (find_both q left live))

-- of buckets none is new or gone
bucket_is : (l n v p : Option BucketRow) (stays : BucketRow → Bool) →
    p ≡ first_of n (only stays v) → is_some v ≡ is_some p →
    ((y : BucketRow) → l ≡ Some y → v ≡ None) →
    first_of l p ≡ first_of n (first_of l v)
bucket_is (Some y) n v p stays e there apart = gone n (sym (ap is_some e)
    ∙ sym there ∙ ap is_some (apart y refl))
  where
    gone : (m : Option BucketRow) → is_some (first_of m (only stays v)) ≡ false →
        Some y ≡ first_of m (Some y)
    gone None f = refl
    gone (Some z) f = absurd (not_both (sym f))
bucket_is None n v p stays e there apart = e ∙ at n v (there ∙ ap is_some e)
  where
    at : (m w : Option BucketRow) → is_some w ≡ is_some (first_of m (only stays w)) →
        first_of m (only stays w) ≡ first_of m w
    at (Some z) w f = refl
    at None None f = refl
    at None (Some x) f = by (stays x) f
      where
        by : (t : Bool) → true ≡ is_some (if t then Some x else None) →
            (if t then Some x else None) ≡ Some x
        by true g = refl
        by false g = absurd (not_both (sym g))

-- ---- all of them

module _ (names : Names) (cycles : Numbers) (w : StoredRows) (bs : List BucketRow) (p : Parts)
    (h : AreParts p) (live : IsStored p.live) (new : IsStored (rows_written w p.live))
    (held : are_held_on w.groups p.live.groups p.live.buckets w.buckets ≡ true)
    (all : IsPermutation (filter (stays_bucket bs) p.live.buckets ++ bs) w.buckets)
    (apart : AreApart same_bucket bs)
    (sessions : AreApart same_session w.sessions) (groups : AreApart same_group w.groups)
    (counters : AreApart same_counter w.counters)
    (fresh : is_fresh names cycles w ≡ true)
    (known_sessions : AreLeftSessions names p.left.sessions)
    (known_groups : AreLeftGroups names p.left.groups)
    (known_counters : AreLeftCounters cycles p.left.counters) where
  abbrev after : Parts
  after = record { live = rows_written w p.live; left = p.left }

  new_rows : AreFresh names cycles w
  new_rows = are_fresh names cycles w fresh

  told_sessions : EachIn (λ (r : Session). is_named names r.id ≡ true) p.left.sessions
  told_sessions = left_sessions names p.left.sessions known_sessions

  told_groups : EachIn (λ (r : SessionGroup). is_named names r.session ≡ true) p.left.groups
  told_groups = left_groups names p.left.groups known_groups

  alike_counter : (x y : Counter) → same_counter x y ≡ true →
      is_numbered cycles y.cycle ≡ is_numbered cycles x.cycle
  alike_counter x y e = ap (is_numbered cycles) (same_number y.cycle x.cycle
      (second_true (y.group == x.group) (y.cycle == x.cycle) e))

  -- ---- buckets

  live_buckets : AreApart same_bucket p.live.buckets
  live_buckets = apart_rest same_bucket p.left.buckets p.live.buckets h.buckets

  number_of : (n : ℕ) (rows : List BucketRow) (y : BucketRow) → bucket_in n rows ≡ Some y →
      y.number ≡ n
  number_of n rows y e = same_number y.number n (find-passes (λ b. b.number == n) rows y e)

  hides : (n : ℕ) (y z : BucketRow) → bucket_in n p.live.buckets ≡ Some y →
      bucket_in n bs ≡ Some z →
      stays_bucket bs y ≡ false
  hides n y z e f =
      hidden (not (is_dead y)) (is_some (bucket_in y.number bs))
      (ap (λ m. is_some (bucket_in m bs)) (number_of n p.live.buckets y e) ∙ ap is_some f)
    where
      hidden : (b o : Bool) → o ≡ true → (b && not o) ≡ false
      hidden true o k = ap not k
      hidden false o k = refl

  both_buckets : AreApart same_bucket (filter (stays_bucket bs) p.live.buckets ++ bs)
  both_buckets = apart_with same_bucket (stays_bucket bs) p.live.buckets bs live_buckets apart
      (λ y e. is_none_is (bucket_in y.number bs)
      (not-true (is_some (bucket_in y.number bs)) (second_true (not (is_dead y)) _ e)))

  bucket_found : (n : ℕ) → bucket_in n w.buckets ≡
      first_of (bucket_in n bs) (only (stays_bucket bs) (bucket_in n p.live.buckets))
  bucket_found n =
      sym (find_reordered same_bucket (λ b. b.number == n) (one_bucket n)
      (filter (stays_bucket bs) p.live.buckets ++ bs) w.buckets all both_buckets)
      ∙ found_over same_bucket (λ b. b.number == n) (one_bucket n) (stays_bucket bs) bs
      p.live.buckets live_buckets (hides n)

  there : (n : ℕ) → is_some (bucket_in n p.live.buckets) ≡ is_some (bucket_in n w.buckets)
  there n = number_there n w.groups p.live.groups p.live.buckets w.buckets held

  none_live : (n : ℕ) (y : BucketRow) → bucket_in n p.left.buckets ≡ Some y →
      bucket_in n p.live.buckets ≡ None
  none_live n y e = apart_none same_bucket (λ b. b.number == n) (one_bucket n) p.left.buckets
      p.live.buckets y h.buckets e

  bucket_over : (n : ℕ) → bucket_in n (p.left.buckets ++ w.buckets) ≡
      first_of (bucket_in n bs) (bucket_in n (p.left.buckets ++ p.live.buckets))
  bucket_over n =
      find_both (λ b. b.number == n) p.left.buckets w.buckets
      ∙ bucket_is (bucket_in n p.left.buckets) (bucket_in n bs) (bucket_in n p.live.buckets)
      (bucket_in n w.buckets) (stays_bucket bs) (bucket_found n) (there n) (none_live n)
      ∙ ap (first_of (bucket_in n bs))
      (sym (find_both (λ b. b.number == n) p.left.buckets p.live.buckets))

  buckets_apart : AreApart same_bucket (p.left.buckets ++ w.buckets)
  buckets_apart = apart_append same_bucket p.left.buckets w.buckets
      (apart_first same_bucket p.left.buckets p.live.buckets h.buckets)
      (distinct_apart w.buckets new.sound.distinct)
      (EachIn-weaker (λ x. EachIn (λ y. same_bucket x y ≡ false) p.live.buckets)
      (λ x. EachIn (λ y. same_bucket x y ≡ false) w.buckets) p.left.buckets
      (λ x k. none_each (same_bucket x) w.buckets
      (is_none_is (bucket_in x.number w.buckets)
      (sym (there x.number) ∙ ap is_some (each_none (same_bucket x) p.live.buckets k))))
      (across same_bucket p.left.buckets p.live.buckets h.buckets))

  -- ---- the others

  session_over : (s : List ℕ) → session_in s (p.left.sessions ++ after.live.sessions) ≡
      first_of (session_in s w.sessions) (session_in s (p.left.sessions ++ p.live.sessions))
  session_over s = written_is (is_session s) p.left.sessions w.sessions p.live.sessions
      after.live.sessions (session_found s w.sessions p.live.sessions sessions)
      (unnamed session_before same_session (λ r. is_named names r.id) (alike_session names)
      p.left.sessions w.sessions p.live.sessions told_sessions new_rows.sessions
      (is_session s) (one_session s))

  group_over : (s : List ℕ) (g : ℕ) → group_in s g (p.left.groups ++ after.live.groups) ≡
      first_of (group_in s g w.groups) (group_in s g (p.left.groups ++ p.live.groups))
  group_over s g = written_is (is_of s g) p.left.groups w.groups p.live.groups
      after.live.groups (group_found s g w.groups p.live.groups groups)
      (unnamed group_before same_group (λ r. is_named names r.session) (alike_group names)
      p.left.groups w.groups p.live.groups told_groups new_rows.groups (is_of s g) (one_group s g))

  counter_over : (g c : ℕ) → counter_in g c (p.left.counters ++ after.live.counters) ≡
      first_of (counter_in g c w.counters) (counter_in g c (p.left.counters ++ p.live.counters))
  counter_over g c = written_is (is_counter g c) p.left.counters w.counters p.live.counters
      after.live.counters (counter_found g c w.counters p.live.counters counters)
      (unnamed counter_before same_counter (λ c. is_numbered cycles c.cycle) alike_counter
      p.left.counters w.counters p.live.counters known_counters new_rows.counters (is_counter g c)
      (one_counter g c))

  -- a group that was left is of no session that is live
  still_other : (r : SessionGroup) → is_named names r.session ≡ true →
      is_some (session_in r.session p.live.sessions) ≡ false →
      is_some (session_in r.session after.live.sessions) ≡ false
  still_other r e f =
      ap is_some (session_found r.session w.sessions p.live.sessions sessions
      ∙ (λ i. first_of (away i) (is_none_is (session_in r.session p.live.sessions) f i)))
    where
      away : session_in r.session w.sessions ≡ None
      away = each_none (is_session r.session) w.sessions
          (EachIn-weaker (λ z. is_named names z.id ≡ false)
          (λ z. is_session r.session z ≡ false) w.sessions
          (λ z k. not_same (is_session r.session z)
          (λ q. sym k ∙ ap (is_named names) (same_from z.id r.session q) ∙ e))
          (none_passing (λ (z : Session). is_named names z.id) w.sessions new_rows.sessions))

  pub written_parts : AreParts after
  written_parts = record {
    buckets = buckets_apart;
    counters = apart_written counter_before same_counter (λ c. is_numbered cycles c.cycle)
        alike_counter p.left.counters w.counters p.live.counters known_counters new_rows.counters
        h.counters new.counters;
    sessions = apart_written session_before same_session (λ r. is_named names r.id)
        (alike_session names) p.left.sessions w.sessions p.live.sessions told_sessions
        new_rows.sessions h.sessions new.sessions;
    groups = apart_written group_before same_group (λ r. is_named names r.session)
        (alike_group names) p.left.groups w.groups p.live.groups told_groups
        new_rows.groups h.groups new.groups;
    dead = h.dead;
    over = h.over;
    free = h.free;
    others = both_each (λ (r : SessionGroup). is_named names r.session ≡ true)
        (λ (r : SessionGroup). is_some (session_in r.session p.live.sessions) ≡ false)
        (λ (r : SessionGroup). is_some (session_in r.session after.live.sessions) ≡ false)
        p.left.groups still_other told_groups h.others;
    balanced = h.balanced;
    used = h.used;
    counted = h.counted;
  }

  pub written_rows : rows_of_parts after ≡ over (record w { buckets = bs }) (rows_of_parts p)
  written_rows = λ i. record {
    head = Some (head_of w);
    buckets = λ n. bucket_over n i;
    counters = λ g c. counter_over g c i;
    sessions = λ s. session_over s i;
    groups = λ s g. (ap (option_map group_row) (group_over s g)
        ∙ sym (row_over (group_in s g w.groups)
        (group_in s g (p.left.groups ++ p.live.groups)))) i;
    holds = λ s g n. (ap (held_of n) (group_over s g)
        ∙ sym (held_over_is n (group_in s g w.groups)
        (group_in s g (p.left.groups ++ p.live.groups)))) i;
  }

-- ---- the rows of a change

module _ (names : Names) (cycles : Numbers) (named : StoredRows) (rows : GivenRows) (p : Parts)
    (h : AreParts p) (live : IsStored p.live) (is : IsNamed named)
    (of : IsGivenOver named p.live.buckets rows)
    (writable : is_writable (given rows) p.live ≡ true)
    (kept : IsStoredInOrder (rows_written (given rows) p.live))
    (fresh : is_fresh names cycles (given rows) ≡ true)
    (known_sessions : AreLeftSessions names p.left.sessions)
    (known_groups : AreLeftGroups names p.left.groups)
    (known_counters : AreLeftCounters cycles p.left.counters) where
  held : are_held_on (given rows).groups p.live.groups p.live.buckets (given rows).buckets ≡ true
  held = (and_parts _ _ writable).1

  apart : AreRowsApart (record (given rows) { buckets = named.buckets })
  apart = subst AreRowsApart (sym of.same) is.apart

  pub put_parts : AreParts (record { live = rows_written (given rows) p.live; left = p.left })
  put_parts = written_parts names cycles (given rows) named.buckets p h live kept.stored held
      of.buckets apart.buckets apart.sessions apart.groups apart.counters fresh known_sessions
      known_groups known_counters

  -- rule: database-writes.rows-written
  pub put_rows : rows_of_parts (record { live = rows_written (given rows) p.live; left = p.left }) ≡
      over named (rows_of_parts p)
  put_rows = written_rows names cycles (given rows) named.buckets p h live kept.stored held
      of.buckets apart.buckets apart.sessions apart.groups apart.counters fresh known_sessions
      known_groups known_counters
      ∙ ap (λ (w : StoredRows). over w (rows_of_parts p)) of.same

  -- what a store keeps of them
  pub put_kept : (left : LeftStore) (known : Known) (new : StoredRows) →
      p ≡ parts_by p.live left → AreKeptBy p.live left known →
      new ≡ rows_written (given rows) p.live → AreKeptBy new left known
  put_kept left known new same was e = record {
    parts = subst AreParts
        (λ i. record { live = sym e i; left = (ap (λ (q : Parts). q.left) same) i }) put_parts;
    buckets = was.buckets;
    counters = was.counters;
    sessions = was.sessions;
    groups = was.groups;
  }
