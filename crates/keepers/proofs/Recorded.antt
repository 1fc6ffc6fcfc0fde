-- Rows of sessions that go straight to what was left, beside those that are written over the live
-- ones: what is found, and what is kept.
use Rattle.std.proofs.Common.{◌≡◌, ℕ, ◌≤◌, Bool, true, false, cond, List, [], ◌∷◌, ◌++◌, refl, sym}
use Rattle.std.proofs.Common.{ap, subst, ◌∙◌, Option, Some, None}
use Rattle.std.specs.Prelude.{◌==◌, ◌&&◌, not, nat_le, filter, is_some, option_map}
use Rattle.std.specs.List.{find, list_all}
use Rattle.std.specs.List.Sorted.{IsPermutation}
use Rattle.std.proofs.lemmas.Bool.{and_parts, not-true}
use Rattle.std.proofs.lemmas.List.{append-nil}
use Rattle.std.proofs.Common.{leb-true}
use Rattle.units.specs.Words.{most_used}
use Rattle.buckets.specs.Row.{BucketRow}
use Rattle.reserving.specs.declared.session.Session.{Session}
use Rattle.reserving.specs.declared.session.SessionGroup.{SessionGroup}
use Rattle.ledger.specs.Ledger.{is_same}
use Rattle.reserving.specs.Sessions.{is_session, is_of, is_open, session_in, group_in}
use Rattle.reserving.specs.Sessions.{session_before, group_before}
use Rattle.reserving.specs.Others.{own_groups}
use Rattle.ledger.specs.Lists.{EachIn}
use Rattle.reserving.specs.Rows.{AreApart}
use Rattle.reserving.specs.Stored.{StoredRows, IsStored, IsStoredInOrder}
use Rattle.reserving.specs.declared.restoring.GivenRows.{GivenRows}
use Rattle.reserving.specs.Restored.{given}
use Rattle.reserving.specs.Left.{is_dead, first_of}
use Rattle.reserving.specs.Written.{rows_written, are_held_on, is_writable}
use Rattle.reserving.proofs.Lists.{no_some, EachIn-weaker, none_each}
use Rattle.reserving.proofs.Keys.{first_true, second_true}
use Rattle.reserving.proofs.KeysFound.{is_none_is}
use Rattle.reserving.proofs.LeftTests.{apart_append, each_append}
use Rattle.reserving.proofs.LeftParted.{one_session, one_group, find_both}
use Rattle.reserving.proofs.Restored.{all_told}
use Rattle.keepers.specs.declared.left_rows.LeftStore.{LeftStore}
use Rattle.keepers.specs.declared.known.Known.{Known}
use Rattle.keepers.specs.Naming.{AreRowsApart, IsNamed}
use Rattle.keepers.specs.Inside.{parts_by, AreKeptBy, AreSameRows}
use Rattle.keepers.specs.Replacing.{KnowsMore, AreNoted, IsAppended}
use Rattle.keepers.specs.Tables.{Rows, group_row, held_of}
use Rattle.keepers.specs.Change.{over}
use Rattle.keepers.specs.Parts.{Parts, AreParts, rows_of_parts, leaves_session}
use Rattle.keepers.specs.Named.{Names, Numbers, is_named, is_numbered}
use Rattle.keepers.specs.Named.{AreLeftBuckets, AreLeftCounters, AreLeftSessions, AreLeftGroups}
use Rattle.keepers.specs.Keyed.{same_bucket, same_session, same_group, same_counter}
use Rattle.keepers.specs.Overlaying.{stays_bucket, is_fresh, IsGivenOver}
use Rattle.keepers.specs.Recorded.{is_past_group, are_past, rest_of, recorded}
use Rattle.keepers.proofs.Found.{apart_first, apart_rest}
use Rattle.keepers.proofs.Fresh.{AreFresh, are_fresh, left_sessions, left_groups, alike_session}
use Rattle.keepers.proofs.Fresh.{alike_group}
use Rattle.keepers.proofs.Kept.{kept_known}
use Rattle.keepers.proofs.GroupRows.{row_over, held_over_is}
use Rattle.keepers.proofs.WrittenParts.{across, both_each, none_there, unnamed, written_parts}
use Rattle.keepers.proofs.WrittenParts.{written_rows}

-- ---- rows of one kind

-- rows beside both those that were left and the live ones stay apart behind the first
apart_more : {A : Type 0} (same : A → A → Bool) (left named live : List A) →
    AreApart same (left ++ live) → AreApart same named →
    EachIn (λ x. EachIn (λ y. same x y ≡ false) named) left →
    EachIn (λ x. EachIn (λ y. same x y ≡ false) live) named →
    AreApart same ((left ++ named) ++ live)
apart_more same left named live h n behind before =
    apart_append same (left ++ named) live
    (apart_append same left named (apart_first same left live h) n behind)
    (apart_rest same left live h)
    (each_append (λ x. EachIn (λ y. same x y ≡ false) live) left named
    (across same left live h) before)

first_between : {A : Type 0} (l n v : Option A) → ((z : A) → n ≡ Some z → l ≡ None) →
    first_of (first_of l n) v ≡ first_of n (first_of l v)
first_between None n v k = refl
first_between (Some y) None v k = refl
first_between (Some y) (Some z) v k = absurd (no_some y (sym (k z refl)))

-- such a row is found before all others
more_is : {A : Type 0} (q : A → Bool) (left named live : List A) →
    ((z : A) → find q named ≡ Some z → find q left ≡ None) →
    find q ((left ++ named) ++ live) ≡ first_of (find q named) (find q (left ++ live))
more_is q left named live k =
    find_both q (left ++ named) live
    ∙ ap (λ o. first_of o (find q live)) (find_both q left named)
    ∙ first_between (find q left) (find q named) (find q live) k
    ∙ ap (first_of (find q named)) (sym (find_both q left live))

-- a group is among those of its session
own_found : (s : List ℕ) (g : ℕ) (rows : List SessionGroup) →
    group_in s g (own_groups s rows) ≡ group_in s g rows
own_found s g [] = refl
own_found s g (r ∷ rows) = at (is_same r.session s) (r.group == g) refl refl (own_found s g rows)
  where
    at : (t u : Bool) → is_same r.session s ≡ t → (r.group == g) ≡ u →
        group_in s g (own_groups s rows) ≡ group_in s g rows →
        find (is_of s g) (cond t (r ∷ own_groups s rows) (own_groups s rows)) ≡
        cond (t && u) (Some r) (find (is_of s g) rows)
    at true true e k rest = rw (e, k) refl
    at true false e k rest = rw (e, k) rest
    at false u e k rest = rest

-- ---- all of them

-- the rest is written
abbrev rest : StoredRows → Parts → Parts
rest w p = record { live = rows_written (rest_of w) p.live; left = p.left }

-- and what is of sessions is behind what was left
abbrev after : StoredRows → Parts → Parts
after w p = record {
  live = rows_written (rest_of w) p.live;
  left = record {
    buckets = p.left.buckets;
    counters = p.left.counters;
    sessions = p.left.sessions ++ w.sessions;
    groups = p.left.groups ++ w.groups;
  };
}

-- as the store has them
after_is : (w : StoredRows) (p : Parts) (rows : StoredRows) (taken : LeftStore) →
    rows ≡ rest_of w → taken.buckets.items ≡ [] → taken.counters.items ≡ [] →
    taken.sessions.items ≡ w.sessions → taken.groups.items ≡ w.groups →
    after w p ≡ recorded rows taken p
after_is w p rows taken beside none none_counted own_sessions own_rows = λ i. record {
  live = rows_written ((sym beside) i) p.live;
  left = record {
    buckets = (sym (append-nil p.left.buckets) ∙ ap (λ xs. p.left.buckets ++ xs) (sym none)) i;
    counters = (sym (append-nil p.left.counters)
        ∙ ap (λ xs. p.left.counters ++ xs) (sym none_counted)) i;
    sessions = p.left.sessions ++ (sym own_sessions) i;
    groups = p.left.groups ++ (sym own_rows) i;
  };
}

module _ (names : Names) (cycles : Numbers) (w : StoredRows) (bs : List BucketRow) (p : Parts)
    (h : AreParts p) (live : IsStored p.live) (new : IsStored (rows_written (rest_of w) p.live))
    (held : are_held_on [] p.live.groups p.live.buckets w.buckets ≡ true)
    (all : IsPermutation (filter (stays_bucket bs) p.live.buckets ++ bs) w.buckets)
    (apart : AreApart same_bucket bs)
    (sessions : AreApart same_session w.sessions) (groups : AreApart same_group w.groups)
    (counters : AreApart same_counter w.counters)
    (past : are_past w p.live ≡ true) (fresh : is_fresh names cycles w ≡ true)
    (known_sessions : AreLeftSessions names p.left.sessions)
    (known_groups : AreLeftGroups names p.left.groups)
    (known_counters : AreLeftCounters cycles p.left.counters) where
  new_rows : AreFresh names cycles w
  new_rows = are_fresh names cycles w fresh

  rest_parts : AreParts (rest w p)
  rest_parts = written_parts names cycles (rest_of w) bs p h live new held all apart tt tt
      counters new_rows.new_cycles known_sessions known_groups known_counters

  rest_rows : rows_of_parts (rest w p) ≡
      over (record (rest_of w) { buckets = bs }) (rows_of_parts p)
  rest_rows = written_rows names cycles (rest_of w) bs p h live new held all apart tt tt
      counters new_rows.new_cycles known_sessions known_groups known_counters

  told_sessions : EachIn (λ (r : Session). is_named names r.id ≡ true) p.left.sessions
  told_sessions = left_sessions names p.left.sessions known_sessions

  told_groups : EachIn (λ (r : SessionGroup). is_named names r.session ≡ true) p.left.groups
  told_groups = left_groups names p.left.groups known_groups

  -- ---- what is known of the rows of sessions

  both : (list_all (leaves_session p.live) w.sessions ≡ true)
      × (list_all (is_past_group p.live) w.groups ≡ true)
  both = and_parts _ _ past

  each_session : (P : Session → Type 0) →
      ((r : Session) → leaves_session p.live r ≡ true → P r) → EachIn P w.sessions
  each_session P k = all_told (leaves_session p.live) P k w.sessions both.0

  each_group : (P : SessionGroup → Type 0) →
      ((r : SessionGroup) → is_past_group p.live r ≡ true → P r) → EachIn P w.groups
  each_group P k = all_told (is_past_group p.live) P k w.groups both.1

  ended : (r : Session) → leaves_session p.live r ≡ true → is_open r.state ≡ false
  ended r e = not-true (is_open r.state) (first_true (not (is_open r.state)) _ e)

  unknown : (r : Session) → leaves_session p.live r ≡ true → session_in r.id p.live.sessions ≡ None
  unknown r e = is_none_is (session_in r.id p.live.sessions)
      (not-true (is_some (session_in r.id p.live.sessions))
      (second_true (not (is_open r.state)) _ e))

  abbrev is_free : SessionGroup → Bool
  is_free r = not (is_some r.reservation) && nat_le r.used most_used

  abbrev is_away : SessionGroup → Bool
  is_away r = not (is_some (session_in r.session p.live.sessions))
      && not (is_some (group_in r.session r.group (own_groups r.session p.live.groups)))

  free : (r : SessionGroup) → is_past_group p.live r ≡ true → is_some r.reservation ≡ false
  free r e = not-true (is_some r.reservation) (first_true (not (is_some r.reservation)) _
      (first_true (is_free r) (is_away r) e))

  within : (r : SessionGroup) → is_past_group p.live r ≡ true → r.used ≤ most_used
  within r e = leb-true r.used most_used (second_true (not (is_some r.reservation)) _
      (first_true (is_free r) (is_away r) e))

  other : (r : SessionGroup) → is_past_group p.live r ≡ true →
      is_some (session_in r.session p.live.sessions) ≡ false
  other r e = not-true (is_some (session_in r.session p.live.sessions))
      (first_true (not (is_some (session_in r.session p.live.sessions))) _
      (second_true (is_free r) (is_away r) e))

  alone : (r : SessionGroup) → is_past_group p.live r ≡ true →
      group_in r.session r.group p.live.groups ≡ None
  alone r e = sym (own_found r.session r.group p.live.groups)
      ∙ is_none_is (group_in r.session r.group (own_groups r.session p.live.groups))
      (not-true (is_some (group_in r.session r.group (own_groups r.session p.live.groups)))
      (second_true (not (is_some (session_in r.session p.live.sessions))) _
      (second_true (is_free r) (is_away r) e)))

  -- ---- what is kept

  sessions_behind : EachIn (λ x. EachIn (λ y. same_session x y ≡ false) w.sessions) p.left.sessions
  sessions_behind = EachIn-weaker (λ (r : Session). is_named names r.id ≡ true)
      (λ x. EachIn (λ y. same_session x y ≡ false) w.sessions) p.left.sessions
      (none_there session_before same_session (λ r. is_named names r.id) (alike_session names)
      p.left.sessions w.sessions p.live.sessions told_sessions new_rows.sessions) told_sessions

  groups_behind : EachIn (λ x. EachIn (λ y. same_group x y ≡ false) w.groups) p.left.groups
  groups_behind = EachIn-weaker (λ (r : SessionGroup). is_named names r.session ≡ true)
      (λ x. EachIn (λ y. same_group x y ≡ false) w.groups) p.left.groups
      (none_there group_before same_group (λ r. is_named names r.session) (alike_group names)
      p.left.groups w.groups p.live.groups told_groups new_rows.groups) told_groups

  after_parts : AreParts (after w p)
  after_parts = record {
    buckets = rest_parts.buckets;
    counters = rest_parts.counters;
    sessions = apart_more same_session p.left.sessions w.sessions p.live.sessions h.sessions
        sessions sessions_behind
        (each_session (λ x. EachIn (λ y. same_session x y ≡ false) p.live.sessions)
        (λ r e. none_each (same_session r) p.live.sessions (unknown r e)));
    groups = apart_more same_group p.left.groups w.groups p.live.groups h.groups groups
        groups_behind
        (each_group (λ x. EachIn (λ y. same_group x y ≡ false) p.live.groups)
        (λ r e. none_each (same_group r) p.live.groups (alone r e)));
    dead = h.dead;
    over = each_append (λ (r : Session). is_open r.state ≡ false) p.left.sessions w.sessions h.over
        (each_session (λ r. is_open r.state ≡ false) ended);
    free = each_append (λ (r : SessionGroup). is_some r.reservation ≡ false) p.left.groups w.groups
        h.free (each_group (λ r. is_some r.reservation ≡ false) free);
    others = each_append
        (λ (r : SessionGroup). is_some (session_in r.session p.live.sessions) ≡ false)
        p.left.groups w.groups h.others
        (each_group (λ r. is_some (session_in r.session p.live.sessions) ≡ false) other);
    balanced = h.balanced;
    used = each_append (λ (r : SessionGroup). r.used ≤ most_used) p.left.groups w.groups h.used
        (each_group (λ r. r.used ≤ most_used) within);
    counted = h.counted;
  }

  -- ---- what is found

  session_more : (s : List ℕ) →
      session_in s ((p.left.sessions ++ w.sessions) ++ p.live.sessions) ≡
      first_of (session_in s w.sessions) (session_in s (p.left.sessions ++ p.live.sessions))
  session_more s = more_is (is_session s) p.left.sessions w.sessions p.live.sessions
      (unnamed session_before same_session (λ r. is_named names r.id) (alike_session names)
      p.left.sessions w.sessions p.live.sessions told_sessions new_rows.sessions
      (is_session s) (one_session s))

  group_more : (s : List ℕ) (g : ℕ) →
      group_in s g ((p.left.groups ++ w.groups) ++ p.live.groups) ≡
      first_of (group_in s g w.groups) (group_in s g (p.left.groups ++ p.live.groups))
  group_more s g = more_is (is_of s g) p.left.groups w.groups p.live.groups
      (unnamed group_before same_group (λ r. is_named names r.session) (alike_group names)
      p.left.groups w.groups p.live.groups told_groups new_rows.groups (is_of s g) (one_group s g))

  after_rows : rows_of_parts (after w p) ≡ over (record w { buckets = bs }) (rows_of_parts p)
  after_rows = λ i. record {
    head = (ap (λ (r : Rows). r.head) rest_rows) i;
    buckets = λ n. (ap (λ (r : Rows). r.buckets n) rest_rows) i;
    counters = λ g c. (ap (λ (r : Rows). r.counters g c) rest_rows) i;
    sessions = λ s. session_more s i;
    groups = λ s g. (ap (option_map group_row) (group_more s g)
        ∙ sym (row_over (group_in s g w.groups)
        (group_in s g (p.left.groups ++ p.live.groups)))) i;
    holds = λ s g n. (ap (held_of n) (group_more s g)
        ∙ sym (held_over_is n (group_in s g w.groups)
        (group_in s g (p.left.groups ++ p.live.groups)))) i;
  }

-- ---- the rows of a change

module _ (names : Names) (cycles : Numbers) (rows others : GivenRows) (taken : LeftStore)
    (p : Parts) (h : AreParts p) (live : IsStored p.live)
    (past : are_past (given rows) p.live ≡ true)
    (beside : given others ≡ rest_of (given rows))
    (none : taken.buckets.items ≡ []) (none_counted : taken.counters.items ≡ [])
    (own_sessions : taken.sessions.items ≡ rows.sessions.items)
    (own_rows : taken.groups.items ≡ rows.groups.items)
    (writable : is_writable (given others) p.live ≡ true)
    (kept : IsStoredInOrder (rows_written (given others) p.live))
    (fresh : is_fresh names cycles (given rows) ≡ true)
    (known_sessions : AreLeftSessions names p.left.sessions)
    (known_groups : AreLeftGroups names p.left.groups)
    (known_counters : AreLeftCounters cycles p.left.counters)
    (named : StoredRows) (is : IsNamed named) (of : IsGivenOver named p.live.buckets rows) where
  new : IsStored (rows_written (rest_of (given rows)) p.live)
  new = subst (λ (w : StoredRows). IsStored (rows_written w p.live)) beside kept.stored

  held : are_held_on [] p.live.groups p.live.buckets (given rows).buckets ≡ true
  held = subst
      (λ (w : StoredRows). are_held_on w.groups p.live.groups p.live.buckets w.buckets ≡ true)
      beside (and_parts _ _ writable).1

  apart : AreRowsApart (record (given rows) { buckets = named.buckets })
  apart = subst AreRowsApart (sym of.same) is.apart

  same_after : after (given rows) p ≡ recorded (given others) taken p
  same_after = after_is (given rows) p (given others) taken beside none none_counted own_sessions
      own_rows

  -- rule: database-writes.past
  pub recorded_parts : AreParts (recorded (given others) taken p)
  recorded_parts = subst AreParts same_after
      (after_parts names cycles (given rows) named.buckets p h live new held of.buckets
      apart.buckets apart.sessions apart.groups apart.counters past fresh known_sessions
      known_groups known_counters)

  -- rule: database-writes.past
  pub recorded_rows : rows_of_parts (recorded (given others) taken p) ≡
      over named (rows_of_parts p)
  recorded_rows = ap rows_of_parts (sym same_after)
      ∙ after_rows names cycles (given rows) named.buckets p h live new held of.buckets
      apart.buckets apart.sessions apart.groups apart.counters past fresh known_sessions
      known_groups known_counters
      ∙ ap (λ (w : StoredRows). over w (rows_of_parts p)) of.same

-- ---- what a store keeps, where rows are behind those that were left

module _ (w live after : StoredRows) (old roomy back rows : LeftStore) (was is : Known)
    (h : AreKeptBy live old was) (more : KnowsMore was is) (noted : AreNoted rows is)
    (room : AreSameRows old roomy) (behind : IsAppended roomy rows back)
    (e : after ≡ rows_written w live)
    (parts : AreParts (recorded w rows (parts_by live old))) where
  known : AreKeptBy live old is
  known = kept_known live old was is h more

  buckets_is : back.buckets.items ≡ old.buckets.items ++ rows.buckets.items
  buckets_is = behind.buckets ∙ ap (λ xs. xs ++ rows.buckets.items) room.buckets

  counters_is : back.counters.items ≡ old.counters.items ++ rows.counters.items
  counters_is = behind.counters ∙ ap (λ xs. xs ++ rows.counters.items) room.counters

  sessions_is : back.sessions.items ≡ old.sessions.items ++ rows.sessions.items
  sessions_is = behind.sessions ∙ ap (λ xs. xs ++ rows.sessions.items) room.sessions

  groups_is : back.groups.items ≡ old.groups.items ++ rows.groups.items
  groups_is = behind.groups ∙ ap (λ xs. xs ++ rows.groups.items) room.groups

  behind_is : parts_by after back ≡ recorded w rows (parts_by live old)
  behind_is = λ i. record {
    live = e i;
    left = record {
      buckets = buckets_is i;
      counters = counters_is i;
      sessions = sessions_is i;
      groups = groups_is i;
    };
  }

  -- rows that can't change, and are known where those of both lists are
  with_known : {A : Type 0} (P Q : A → Type 0) (xs ys : List A) → EachIn P (xs ++ ys) →
      EachIn (λ x. P x × Q x) xs → EachIn Q ys → EachIn (λ x. P x × Q x) (xs ++ ys)
  with_known P Q xs ys p first last = both_each P Q (λ x. P x × Q x) (xs ++ ys) (λ x y z. (y, z)) p
      (each_append Q xs ys (EachIn-weaker (λ x. P x × Q x) Q xs (λ x y. y.1) first) last)

  pub kept_behind : AreKeptBy after back is
  kept_behind = record {
    parts = subst AreParts (sym behind_is) parts;
    buckets = subst (AreLeftBuckets is.numbers) (sym buckets_is)
        (with_known (λ b. is_dead b ≡ true) (λ b. is_numbered is.numbers b.number ≡ true)
        old.buckets.items rows.buckets.items parts.dead known.buckets noted.buckets);
    counters = subst (AreLeftCounters is.cycles) (sym counters_is)
        (each_append (λ c. is_numbered is.cycles c.cycle ≡ true) old.counters.items
        rows.counters.items known.counters noted.counters);
    sessions = subst (AreLeftSessions is.names) (sym sessions_is)
        (with_known (λ r. is_open r.state ≡ false) (λ r. is_named is.names r.id ≡ true)
        old.sessions.items rows.sessions.items parts.over known.sessions noted.sessions);
    groups = subst (AreLeftGroups is.names) (sym groups_is)
        (with_known (λ r. is_some r.reservation ≡ false) (λ r. is_named is.names r.session ≡ true)
        old.groups.items rows.groups.items parts.free known.groups noted.groups);
  }
