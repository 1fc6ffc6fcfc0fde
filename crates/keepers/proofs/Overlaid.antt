-- The rows of a change over those that are there: what is live after it, and what no longer is.
use Rattle.std.proofs.Common.{◌≡◌, ℕ, Bool, true, false, List, [], ◌++◌, refl, sym, ap}
use Rattle.std.proofs.Common.{◌∙◌, subst, Option, Some, None}
use Rattle.std.specs.Prelude.{if◌then◌else◌, ◌==◌, ◌&&◌, ◌||◌, not, filter, is_some, option_map}
use Rattle.std.specs.List.{find, list_any}
use Rattle.std.specs.List.Sorted.{IsPermutation}
use Rattle.std.proofs.lemmas.Bool.{not-true}
use Rattle.std.proofs.lemmas.List.Sorted.{IsPermutation-refl}
use Rattle.buckets.specs.Row.{BucketRow}
use Rattle.reserving.specs.declared.session.Session.{Session}
use Rattle.reserving.specs.declared.session.SessionGroup.{SessionGroup}
use Rattle.reserving.specs.declared.session.Reservation.{Reservation}
use Rattle.reserving.specs.declared.session.Counter.{Counter}
use Rattle.ledger.specs.Ledger.{is_same}
use Rattle.reserving.specs.Sessions.{is_session, is_of, is_counter, is_open, session_in, group_in}
use Rattle.reserving.specs.Sessions.{counter_in}
use Rattle.reserving.specs.Rows.{AreApart}
use Rattle.reserving.specs.Stored.{StoredRows}
use Rattle.ledger.specs.Laws.{IsDead}
use Rattle.reserving.specs.Left.{is_dead, only, first_of, bucket_in}
use Rattle.reserving.specs.Restored.{in_key_order, AreReordered, FindsSame}
use Rattle.reserving.proofs.Lists.{not_both, no_some, some_of, find-passes, EachIn-found}
use Rattle.ledger.proofs.Holds.{same_from}
use Rattle.ledger.proofs.Names.{number_same}
use Rattle.reserving.proofs.Keys.{first_true, second_true, same_number}
use Rattle.reserving.proofs.KeysFound.{is_none_is}
use Rattle.reserving.proofs.LeftTests.{find_filter, first_alone}
use Rattle.reserving.proofs.LeftParted.{one_session, one_group, one_counter, find_both, dead_parts}
use Rattle.reserving.proofs.LeftMore.{apart_none}
use Rattle.reserving.proofs.Reordered.{apart_reordered, find_reordered}
use Rattle.keepers.specs.Tables.{GroupRow, head_of, group_row, held_of, no_rows}
use Rattle.keepers.specs.Change.{held_over, over}
use Rattle.keepers.specs.Parts.{Parts, AreParts, rows_of_parts}
use Rattle.keepers.specs.Named.{Names, is_named, AreLeftGroups}
use Rattle.keepers.specs.Naming.{IsNamed}
use Rattle.keepers.specs.Keyed.{same_bucket, same_session, same_group, same_counter}
use Rattle.keepers.specs.Overlaying.{stays_bucket, stays_counter, stays_session, stays_group}
use Rattle.keepers.specs.Overlaying.{back_from, sessions_over, groups_over, rows_over}
use Rattle.keepers.specs.Overlaying.{IsAccountOf, IsRestDead}
use Rattle.keepers.proofs.Found.{one_bucket, apart_first, apart_rest}
use Rattle.keepers.proofs.GroupRows.{row_over, held_over_is}
use Rattle.keepers.proofs.PartsKept.{apart_with}
use Rattle.keepers.proofs.Unchanged.{any_found}

-- ---- rows of one kind

-- no row is found whose key another has that is named
over_turned : {A : Type 0} (p : A → Bool) (o n : Option A) →
    ((y z : A) → o ≡ Some y → n ≡ Some z → p y ≡ false) →
    first_of (only p o) n ≡ first_of n (only p o)
over_turned p None None h = refl
over_turned p None (Some z) h = refl
over_turned p (Some y) None h = first_alone (if p y then Some y else None)
over_turned p (Some y) (Some z) h =
    ap (λ t. first_of (if t then Some y else None) (Some z)) (h y z refl refl)

module _ {A : Type 0} (same : A → A → Bool) (q : A → Bool) (one : (x y : A) → q x ≡ true →
    q y ≡ true → same x y ≡ true) (p : A → Bool) where
  pub found_over : (named live : List A) → AreApart same live →
      ((y z : A) → find q live ≡ Some y → find q named ≡ Some z → p y ≡ false) →
      find q (filter p live ++ named) ≡ first_of (find q named) (only p (find q live))
  found_over named live apart hides =
      find_both q (filter p live) named
      ∙ ap (λ o. first_of o (find q named)) (find_filter same q one p live apart)
      ∙ over_turned p (find q live) (find q named) hides

-- what is live over what is there is what is named over it
over_is : {A : Type 0} (p : A → Bool) (n o l : Option A) → ((y : A) → l ≡ Some y → o ≡ Some y) →
    first_of (first_of n (only p l)) o ≡ first_of n o
over_is p None o None h = refl
over_is p (Some z) o l h = refl
over_is p None o (Some y) h = at (p y)
  where
    at : (t : Bool) → first_of (if t then Some y else None) o ≡ o
    at true = sym (h y refl)
    at false = refl

-- what isn't live any more isn't named, and doesn't stay
gone : {A : Type 0} (p : A → Bool) (n l : Option A) (y : A) → first_of n (only p l) ≡ None →
    l ≡ Some y → (n ≡ None) × (p y ≡ false)
gone p (Some z) l y e k = absurd (no_some z (sym e))
gone p None None y e k = absurd (no_some y k)
gone p None (Some x) y e k = (refl, ap p (sym (some_of x y k)) ∙ at (p x) e)
  where
    at : (t : Bool) → (if t then Some x else None) ≡ None → t ≡ false
    at true f = absurd (no_some x (sym f))
    at false f = refl

none_is : {A : Type 0} (o : Option A) → o ≡ None → not (is_some o) ≡ true
none_is o e = ap (λ x. not (is_some x)) e

not_hidden : (b c : Bool) → (b && c) ≡ false → c ≡ true → b ≡ false
not_hidden true true e k = e
not_hidden false c e k = refl
not_hidden true false e k = absurd (not_both k)

not_not : (b : Bool) → not b ≡ false → b ≡ true
not_not true e = refl
not_not false e = absurd (not_both (sym e))

hidden : (b : Bool) (o : Bool) → o ≡ true → (b && not o) ≡ false
hidden true o e = ap not e
hidden false o e = refl

some_there : {A : Type 0} (o : Option A) (z : A) → o ≡ Some z → is_some o ≡ true
some_there o z e = ap is_some e

-- ---- what is left, and what is live

behind_some : {A : Type 0} (f l : Option A) (y : A) → ((z : A) → f ≡ Some z → l ≡ None) →
    l ≡ Some y → first_of f l ≡ Some y
behind_some None l y h e = e
behind_some (Some z) l y h e = absurd (no_some y (sym (h z refl) ∙ e))

one_of : {A : Type 0} {R : Type 0} (f l : Option A) (y : A) → first_of f l ≡ Some y →
    (f ≡ Some y → R) → (l ≡ Some y → R) → R
one_of None l y e left live = live e
one_of (Some z) l y e left live = left e

module _ (named : StoredRows) (names : Names) (p : Parts) (after : StoredRows) (h : AreParts p)
    (is : IsNamed named) (known : AreLeftGroups names p.left.groups)
    (of : IsAccountOf (rows_over named (back_from names named.sessions p.left.groups) p.live)
    after) where
  abbrev back : List SessionGroup
  back = back_from names named.sessions p.left.groups

  -- ---- buckets

  bucket_live : (n : ℕ) (y : BucketRow) → bucket_in n p.live.buckets ≡ Some y →
      bucket_in n (p.left.buckets ++ p.live.buckets) ≡ Some y
  bucket_live n y e = find_both (λ b. b.number == n) p.left.buckets p.live.buckets
      ∙ behind_some (bucket_in n p.left.buckets) (bucket_in n p.live.buckets) y
      (λ z f. apart_none same_bucket (λ b. b.number == n) (one_bucket n) p.left.buckets
      p.live.buckets z h.buckets f) e

  number_of : (n : ℕ) (rows : List BucketRow) (y : BucketRow) → bucket_in n rows ≡ Some y →
      y.number ≡ n
  number_of n rows y e = same_number y.number n (find-passes (λ b. b.number == n) rows y e)

  bucket_hidden : (n : ℕ) (y z : BucketRow) → bucket_in n p.live.buckets ≡ Some y →
      bucket_in n named.buckets ≡ Some z → stays_bucket named.buckets y ≡ false
  bucket_hidden n y z e f =
      hidden (not (is_dead y)) (is_some (bucket_in y.number named.buckets))
      (ap (λ m. is_some (bucket_in m named.buckets)) (number_of n p.live.buckets y e)
      ∙ some_there (bucket_in n named.buckets) z f)

  live_buckets : AreApart same_bucket p.live.buckets
  live_buckets = apart_rest same_bucket p.left.buckets p.live.buckets h.buckets

  all_buckets : AreApart same_bucket (filter (stays_bucket named.buckets) p.live.buckets
      ++ named.buckets)
  all_buckets = apart_with same_bucket (stays_bucket named.buckets) p.live.buckets named.buckets
      live_buckets is.apart.buckets
      (λ y e. is_none_is (bucket_in y.number named.buckets)
      (not-true (is_some (bucket_in y.number named.buckets)) (second_true (not (is_dead y)) _ e)))

  bucket_after : (n : ℕ) → bucket_in n after.buckets ≡ first_of (bucket_in n named.buckets)
      (only (stays_bucket named.buckets) (bucket_in n p.live.buckets))
  bucket_after n = of.buckets all_buckets n
      ∙ found_over same_bucket (λ b. b.number == n) (one_bucket n) (stays_bucket named.buckets)
      named.buckets p.live.buckets live_buckets (bucket_hidden n)

  bucket_dead : (n : ℕ) (y : BucketRow) →
      bucket_in n (p.left.buckets ++ p.live.buckets) ≡ Some y → bucket_in n after.buckets ≡ None →
      IsDead y
  bucket_dead n y e k = dead_parts y
      (one_of (bucket_in n p.left.buckets) (bucket_in n p.live.buckets) y
      (sym (find_both (λ b. b.number == n) p.left.buckets p.live.buckets) ∙ e)
      (λ f. EachIn-found (λ b. is_dead b ≡ true) (λ b. b.number == n) p.left.buckets y h.dead f)
      (λ f. live f))
    where
      live : bucket_in n p.live.buckets ≡ Some y → is_dead y ≡ true
      live f =
          let away = gone (stays_bucket named.buckets) (bucket_in n named.buckets)
          (bucket_in n p.live.buckets) y (sym (bucket_after n) ∙ k) f in
          not_not (is_dead y) (not_hidden (not (is_dead y))
          (not (is_some (bucket_in y.number named.buckets))) away.1
          (none_is (bucket_in y.number named.buckets)
          (ap (λ m. bucket_in m named.buckets) (number_of n p.live.buckets y f) ∙ away.0)))

  -- ---- counters

  counter_live : (g c : ℕ) (y : Counter) → counter_in g c p.live.counters ≡ Some y →
      counter_in g c (p.left.counters ++ p.live.counters) ≡ Some y
  counter_live g c y e = find_both (is_counter g c) p.left.counters p.live.counters
      ∙ behind_some (counter_in g c p.left.counters) (counter_in g c p.live.counters) y
      (λ z f. apart_none same_counter (is_counter g c) (one_counter g c) p.left.counters
      p.live.counters z h.counters f) e

  group_of : (g c : ℕ) (rows : List Counter) (y : Counter) → counter_in g c rows ≡ Some y →
      y.group ≡ g
  group_of g c rows y e = same_number y.group g
      (first_true (y.group == g) (y.cycle == c) (find-passes (is_counter g c) rows y e))

  counts : (g : ℕ) (rows : List Counter) (c : ℕ) (z : Counter) → counter_in g c rows ≡ Some z →
      list_any (λ (x : Counter). x.group == g) rows ≡ true
  counts g rows c z e = any_found (is_counter g c) (λ x. x.group == g) rows z e
      (first_true (z.group == g) (z.cycle == c) (find-passes (is_counter g c) rows z e))

  counter_hidden : (g c : ℕ) (y z : Counter) → counter_in g c p.live.counters ≡ Some y →
      counter_in g c named.counters ≡ Some z → stays_counter named.counters y ≡ false
  counter_hidden g c y z e f =
      ap (λ n. not (list_any (λ (x : Counter). x.group == n) named.counters))
      (group_of g c p.live.counters y e)
      ∙ ap not (counts g named.counters c z f)

  counter_after : (g c : ℕ) → counter_in g c after.counters ≡
      first_of (counter_in g c named.counters)
      (only (stays_counter named.counters) (counter_in g c p.live.counters))
  counter_after g c = of.others.counters g c
      ∙ found_over same_counter (is_counter g c) (one_counter g c) (stays_counter named.counters)
      named.counters p.live.counters
      (apart_rest same_counter p.left.counters p.live.counters h.counters) (counter_hidden g c)

  -- ---- sessions

  session_live : (s : List ℕ) (y : Session) → session_in s p.live.sessions ≡ Some y →
      session_in s (p.left.sessions ++ p.live.sessions) ≡ Some y
  session_live s y e = find_both (is_session s) p.left.sessions p.live.sessions
      ∙ behind_some (session_in s p.left.sessions) (session_in s p.live.sessions) y
      (λ z f. apart_none same_session (is_session s) (one_session s) p.left.sessions
      p.live.sessions z h.sessions f) e

  name_of : (s : List ℕ) (rows : List Session) (y : Session) → session_in s rows ≡ Some y →
      y.id ≡ s
  name_of s rows y e = same_from y.id s (find-passes (is_session s) rows y e)

  session_hidden : (s : List ℕ) (y z : Session) → session_in s p.live.sessions ≡ Some y →
      session_in s named.sessions ≡ Some z → stays_session named.sessions y ≡ false
  session_hidden s y z e f =
      hidden (is_open y.state) (is_some (session_in y.id named.sessions))
      (ap (λ m. is_some (session_in m named.sessions)) (name_of s p.live.sessions y e)
      ∙ some_there (session_in s named.sessions) z f)

  session_over : (s : List ℕ) → session_in s (sessions_over named.sessions p.live.sessions) ≡
      first_of (session_in s named.sessions)
      (only (stays_session named.sessions) (session_in s p.live.sessions))
  session_over s = found_over same_session (is_session s) (one_session s)
      (stays_session named.sessions) named.sessions p.live.sessions
      (apart_rest same_session p.left.sessions p.live.sessions h.sessions) (session_hidden s)

  session_after : (s : List ℕ) → session_in s after.sessions ≡
      first_of (session_in s named.sessions)
      (only (stays_session named.sessions) (session_in s p.live.sessions))
  session_after s = of.others.sessions s ∙ session_over s

  session_ended : (s : List ℕ) (y : Session) →
      session_in s (p.left.sessions ++ p.live.sessions) ≡ Some y →
      session_in s after.sessions ≡ None → is_open y.state ≡ false
  session_ended s y e k =
      one_of (session_in s p.left.sessions) (session_in s p.live.sessions) y
      (sym (find_both (is_session s) p.left.sessions p.live.sessions) ∙ e)
      (λ f. EachIn-found (λ r. is_open r.state ≡ false) (is_session s) p.left.sessions y h.over f)
      (λ f. live f)
    where
      live : session_in s p.live.sessions ≡ Some y → is_open y.state ≡ false
      live f =
          let away = gone (stays_session named.sessions) (session_in s named.sessions)
          (session_in s p.live.sessions) y (sym (session_after s) ∙ k) f in
          not_hidden (is_open y.state) (not (is_some (session_in y.id named.sessions))) away.1
          (none_is (session_in y.id named.sessions)
          (ap (λ m. session_in m named.sessions) (name_of s p.live.sessions y f) ∙ away.0))

  -- ---- groups

  abbrev stays : SessionGroup → Bool
  stays = stays_group named.groups (sessions_over named.sessions p.live.sessions)

  key_session : (s : List ℕ) (g : ℕ) (rows : List SessionGroup) (y : SessionGroup) →
      group_in s g rows ≡ Some y → y.session ≡ s
  key_session s g rows y e = same_from y.session s
      (first_true (is_same y.session s) (y.group == g) (find-passes (is_of s g) rows y e))

  key_group : (s : List ℕ) (g : ℕ) (rows : List SessionGroup) (y : SessionGroup) →
      group_in s g rows ≡ Some y → y.group ≡ g
  key_group s g rows y e = same_number y.group g
      (second_true (is_same y.session s) (y.group == g) (find-passes (is_of s g) rows y e))

  named_of_key : (s : List ℕ) (g : ℕ) (rows : List SessionGroup) (y : SessionGroup) →
      group_in s g rows ≡ Some y →
      group_in y.session y.group named.groups ≡ group_in s g named.groups
  named_of_key s g rows y e =
      λ i. group_in (key_session s g rows y e i) (key_group s g rows y e i) named.groups

  -- a group that was left stays behind, where no session of one is named
  session_unnamed : (y : SessionGroup) → is_named names y.session ≡ true →
      list_any (λ (r : Session). is_named names r.id) named.sessions ≡ false →
      session_in y.session named.sessions ≡ None
  session_unnamed y e none = at (session_in y.session named.sessions) refl
    where
      at : (o : Option Session) → session_in y.session named.sessions ≡ o → o ≡ None
      at None f = refl
      at (Some r) f = absurd (not_both (sym none ∙ any_found (is_session y.session)
          (λ (z : Session). is_named names z.id) named.sessions r f
          (ap (is_named names) (name_of y.session named.sessions r f) ∙ e)))

  left_behind : (s : List ℕ) (g : ℕ) (y : SessionGroup) →
      group_in s g p.left.groups ≡ Some y →
      list_any (λ (r : Session). is_named names r.id) named.sessions ≡ false → stays y ≡ false
  left_behind s g y e none =
      let free : is_some y.reservation ≡ false = EachIn-found
      (λ (r : SessionGroup). is_some r.reservation ≡ false) (is_of s g) p.left.groups y h.free e in
      let other : is_some (session_in y.session p.live.sessions) ≡ false = EachIn-found
      (λ (r : SessionGroup). is_some (session_in r.session p.live.sessions) ≡ false) (is_of s g)
      p.left.groups y h.others e in
      let name : is_named names y.session ≡ true = (EachIn-found
      (λ (r : SessionGroup). (is_some r.reservation ≡ false) × (is_named names r.session ≡ true))
      (is_of s g) p.left.groups y known e).1 in
      let away : session_in y.session (sessions_over named.sessions p.live.sessions) ≡ None =
      session_over y.session
      ∙ (λ i. first_of (session_unnamed y name none i)
      (only (stays_session named.sessions) (is_none_is (session_in y.session p.live.sessions) other
      i))) in
      ap (λ t. not (is_some (group_in y.session y.group named.groups)) && t)
      (λ i. free i || is_some (away i))
      ∙ never (not (is_some (group_in y.session y.group named.groups)))
    where
      never : (b : Bool) → (b && false) ≡ false
      never true = refl
      never false = refl

  group_found : (s : List ℕ) (g : ℕ) →
      group_in s g (filter stays back ++ filter stays p.live.groups) ≡
      only stays (group_in s g (p.left.groups ++ p.live.groups))
  group_found s g =
      find_both (is_of s g) (filter stays back) (filter stays p.live.groups)
      ∙ ap (first_of (group_in s g (filter stays back)))
      (find_filter same_group (is_of s g) (one_group s g) stays p.live.groups
      (apart_rest same_group p.left.groups p.live.groups h.groups))
      ∙ by (list_any (λ (r : Session). is_named names r.id) named.sessions) refl
      ∙ ap (only stays) (sym (find_both (is_of s g) p.left.groups p.live.groups))
    where
      only_first : (f l : Option SessionGroup) → ((z : SessionGroup) → f ≡ Some z → l ≡ None) →
          first_of (only stays f) (only stays l) ≡ only stays (first_of f l)
      only_first None l k = refl
      only_first (Some z) l k = ap (λ o. first_of (only stays (Some z)) (only stays o)) (k z refl)
          ∙ first_alone (only stays (Some z))

      only_live : (f l : Option SessionGroup) → ((z : SessionGroup) → f ≡ Some z → l ≡ None) →
          ((z : SessionGroup) → f ≡ Some z → stays z ≡ false) →
          only stays l ≡ only stays (first_of f l)
      only_live None l k n = refl
      only_live (Some z) l k n = ap (only stays) (k z refl)
          ∙ sym (ap (λ t. if t then Some z else None) (n z refl))

      apart : (z : SessionGroup) → group_in s g p.left.groups ≡ Some z →
          group_in s g p.live.groups ≡ None
      apart z f = apart_none same_group (is_of s g) (one_group s g) p.left.groups p.live.groups z
          h.groups f

      by : (t : Bool) → list_any (λ (r : Session). is_named names r.id) named.sessions ≡ t →
          first_of (group_in s g (filter stays (if t then p.left.groups else [])))
          (only stays (group_in s g p.live.groups))
          ≡ only stays (first_of (group_in s g p.left.groups) (group_in s g p.live.groups))
      by true e =
          ap (λ o. first_of o (only stays (group_in s g p.live.groups)))
          (find_filter same_group (is_of s g) (one_group s g) stays p.left.groups
          (apart_first same_group p.left.groups p.live.groups h.groups))
          ∙ only_first (group_in s g p.left.groups) (group_in s g p.live.groups) apart
      by false e = only_live (group_in s g p.left.groups) (group_in s g p.live.groups) apart
          (λ z f. left_behind s g z f e)

  group_hidden : (s : List ℕ) (g : ℕ) (y z : SessionGroup) →
      group_in s g (p.left.groups ++ p.live.groups) ≡ Some y →
      group_in s g named.groups ≡ Some z → stays y ≡ false
  group_hidden s g y z e f =
      ap (λ t. not t && (is_some y.reservation
      || is_some (session_in y.session (sessions_over named.sessions p.live.sessions))))
      (ap is_some (named_of_key s g (p.left.groups ++ p.live.groups) y e)
      ∙ some_there (group_in s g named.groups) z f)

  group_after : (s : List ℕ) (g : ℕ) → group_in s g after.groups ≡
      first_of (group_in s g named.groups)
      (only stays (group_in s g (p.left.groups ++ p.live.groups)))
  group_after s g = of.others.groups s g
      ∙ find_both (is_of s g) (filter stays back ++ filter stays p.live.groups) named.groups
      ∙ ap (λ o. first_of o (group_in s g named.groups)) (group_found s g)
      ∙ over_turned stays (group_in s g (p.left.groups ++ p.live.groups))
      (group_in s g named.groups) (group_hidden s g)

  group_over : (s : List ℕ) (g : ℕ) →
      first_of (group_in s g after.groups) (group_in s g (p.left.groups ++ p.live.groups)) ≡
      first_of (group_in s g named.groups) (group_in s g (p.left.groups ++ p.live.groups))
  group_over s g =
      ap (λ o. first_of o (group_in s g (p.left.groups ++ p.live.groups))) (group_after s g)
      ∙ over_is stays (group_in s g named.groups) (group_in s g (p.left.groups ++ p.live.groups))
      (group_in s g (p.left.groups ++ p.live.groups)) (λ y e. e)

  neither : (b c : Bool) → (b || c) ≡ false → (b ≡ false) × (c ≡ false)
  neither false c e = (refl, e)
  neither true c e = absurd (not_both (sym e))

  group_free : (s : List ℕ) (g : ℕ) (y : SessionGroup) →
      group_in s g (p.left.groups ++ p.live.groups) ≡ Some y → group_in s g after.groups ≡ None →
      (y.reservation ≡ None) × (session_in s after.sessions ≡ None)
  group_free s g y e k =
      let away = gone stays (group_in s g named.groups)
      (group_in s g (p.left.groups ++ p.live.groups)) y (sym (group_after s g) ∙ k) e in
      let rest = neither (is_some y.reservation)
      (is_some (session_in y.session (sessions_over named.sessions p.live.sessions)))
      (shown (not (is_some (group_in y.session y.group named.groups))) _ away.1
      (none_is (group_in y.session y.group named.groups)
      (named_of_key s g (p.left.groups ++ p.live.groups) y e ∙ away.0))) in (
        is_none_is y.reservation rest.0,
        of.others.sessions s
            ∙ ap (λ n. session_in n (sessions_over named.sessions p.live.sessions))
            (sym (key_session s g (p.left.groups ++ p.live.groups) y e))
            ∙ is_none_is (session_in y.session (sessions_over named.sessions p.live.sessions))
            rest.1,
      )
    where
      shown : (b c : Bool) → (b && c) ≡ false → b ≡ true → c ≡ false
      shown true c f n = f
      shown false c f n = absurd (not_both n)

  -- ---- all of it

  pub rest_dead : IsRestDead after (rows_of_parts p)
  rest_dead = record {
    dead = λ n y e k. bucket_dead n y e k;
    ended = λ s y e k. session_ended s y e k;
    free = λ s g x e k. by_row s g x (group_in s g (p.left.groups ++ p.live.groups)) refl e k;
  }
    where
      by_row : (s : List ℕ) (g : ℕ) (x : GroupRow) (o : Option SessionGroup) →
          group_in s g (p.left.groups ++ p.live.groups) ≡ o → option_map group_row o ≡ Some x →
          group_in s g after.groups ≡ None →
          (x.terms ≡ None) × (session_in s after.sessions ≡ None)
      by_row s g x None there e k = absurd (no_some x e)
      by_row s g x (Some y) there e k =
          let free = group_free s g y there k in (
            ap (λ (z : GroupRow). z.terms) (sym (some_of (group_row y) x e))
                ∙ ap (λ (o : Option Reservation). option_map (λ (z : Reservation). z.terms) o)
                free.0,
            free.1,
          )

  -- rule: database-writes.changed
  pub overlaid : over after (rows_of_parts p) ≡ over named (rows_of_parts p)
  overlaid = λ i. record {
    head = Some (of.head i);
    buckets = λ n. (ap (λ o. first_of o (bucket_in n (p.left.buckets ++ p.live.buckets)))
        (bucket_after n)
        ∙ over_is (stays_bucket named.buckets) (bucket_in n named.buckets)
        (bucket_in n (p.left.buckets ++ p.live.buckets)) (bucket_in n p.live.buckets)
        (bucket_live n)) i;
    counters = λ g c. (ap (λ o. first_of o (counter_in g c (p.left.counters ++ p.live.counters)))
        (counter_after g c)
        ∙ over_is (stays_counter named.counters) (counter_in g c named.counters)
        (counter_in g c (p.left.counters ++ p.live.counters)) (counter_in g c p.live.counters)
        (counter_live g c)) i;
    sessions = λ s. (ap (λ o. first_of o (session_in s (p.left.sessions ++ p.live.sessions)))
        (session_after s)
        ∙ over_is (stays_session named.sessions) (session_in s named.sessions)
        (session_in s (p.left.sessions ++ p.live.sessions)) (session_in s p.live.sessions)
        (session_live s)) i;
    groups = λ s g. (row_over (group_in s g after.groups)
        (group_in s g (p.left.groups ++ p.live.groups))
        ∙ ap (option_map group_row) (group_over s g)
        ∙ sym (row_over (group_in s g named.groups)
        (group_in s g (p.left.groups ++ p.live.groups)))) i;
    holds = λ s g n. (held_over_is n (group_in s g after.groups)
        (group_in s g (p.left.groups ++ p.live.groups))
        ∙ ap (held_of n) (group_over s g)
        ∙ sym (held_over_is n (group_in s g named.groups)
        (group_in s g (p.left.groups ++ p.live.groups)))) i;
  }

-- ---- an account of rows in another order

number_back : (a b : ℕ) → (b == a) ≡ (a == b)
number_back a b = at (b == a) (a == b) refl refl
  where
    at : (p q : Bool) → (b == a) ≡ p → (a == b) ≡ q → p ≡ q
    at true true e f = refl
    at true false e f =
        absurd (not_both (sym f ∙ (λ i. a == same_number b a e i) ∙ number_same a))
    at false true e f =
        absurd (not_both (sym e ∙ (λ i. b == same_number a b f i) ∙ number_same b))
    at false false e f = refl

pub account_given : (w : StoredRows) (purse : List BucketRow) (v : StoredRows) →
    IsPermutation w.buckets purse → IsAccountOf (record w { buckets = purse }) v → IsAccountOf w v
account_given w purse v all of = record {
  head = of.head;
  buckets = λ apart n.
      of.buckets (apart_reordered same_bucket (λ x. number_same x.number)
      (λ x y. number_back x.number y.number) w.buckets purse all apart) n
      ∙ sym (find_reordered same_bucket (λ b. b.number == n) (one_bucket n) w.buckets purse all
      apart);
  others = record {
    sessions = of.others.sessions;
    groups = of.others.groups;
    counters = of.others.counters;
  };
}

-- the order in which sessions and groups come changes nothing
pub account_reordered : (w v : StoredRows) (sessions : List Session) (groups : List SessionGroup) →
    v ≡ in_key_order w → ((other : StoredRows) → AreReordered other w → FindsSame other v) →
    IsPermutation sessions w.sessions → IsPermutation groups w.groups →
    IsAccountOf (record w { groups = groups; sessions = sessions }) v
account_reordered w v sessions groups e finds s g = record {
  head = ap head_of e;
  buckets = λ apart n. ap (λ (x : StoredRows). bucket_in n x.buckets) e;
  others = finds (record w { groups = groups; sessions = sessions })
      (record { sessions = s; groups = g; counters = IsPermutation-refl w.counters });
}

pub account_over : (named live : StoredRows) (back : List SessionGroup)
    (buckets purse : List BucketRow)
    (counters : List Counter) (sessions : List Session) (groups : List SessionGroup)
    (v : StoredRows) →
    buckets ≡ filter (stays_bucket named.buckets) live.buckets ++ named.buckets →
    IsPermutation buckets purse →
    counters ≡ filter (stays_counter named.counters) live.counters ++ named.counters →
    sessions ≡ sessions_over named.sessions live.sessions →
    groups ≡ groups_over named.groups sessions back live.groups →
    IsAccountOf (record named {
      buckets = purse;
      counters = counters;
      sessions = sessions;
      groups = groups;
    }) v → IsAccountOf (rows_over named back live) v
account_over named live back buckets purse counters sessions groups v bs all cs ss gs of =
    account_given (rows_over named back live) purse v
    (subst (λ xs. IsPermutation xs purse) bs all)
    (subst (λ (w : StoredRows). IsAccountOf w v) (λ i. record named {
      buckets = purse;
      counters = cs i;
      sessions = ss i;
      groups = (gs ∙ ap (λ xs. groups_over named.groups xs back live.groups) ss) i;
    }) of)

-- a new account has the rows of the change
pub over_first : (named after : StoredRows) → IsNamed named → IsAccountOf named after →
    over after no_rows ≡ over named no_rows
over_first named after is of = λ i. record {
  head = Some (of.head i);
  buckets = λ n. first_of (of.buckets is.apart.buckets n i) None;
  counters = λ g c. first_of (of.others.counters g c i) None;
  sessions = λ s. first_of (of.others.sessions s i) None;
  groups = λ s g. first_of (option_map group_row (of.others.groups s g i)) None;
  holds = λ s g n. held_over n (of.others.groups s g i) 0;
}
