-- What the keeper in memory has of an account stays apart: what is live, and what was left.
use Rattle.std.proofs.Common.{◌≡◌, ℕ, ◌≤◌, Bool, true, false, List, [], ◌∷◌, ◌++◌, map}
use Rattle.std.proofs.Common.{get_or, refl, sym, ap, ◌∙◌, Option, Some, None}
use Rattle.std.specs.Prelude.{if◌then◌else◌, ◌==◌, not, filter, is_some, position}
use Rattle.std.specs.Prelude.{Result, Ok, Err, IfOk, OnOk}
use Rattle.std.specs.List.{find}
use Rattle.std.proofs.lemmas.Bool.{not-true}
use Rattle.buckets.specs.Row.{BucketRow, IsBalanced, with_release, with_end}
use Rattle.buckets.specs.Spend.{Each}
use Rattle.buckets.proofs.SharesAlong.{with_end_keeps, with_release_number}
use Rattle.shelves.specs.Shelves.{Shelf}
use Rattle.reserving.specs.declared.session.Session.{Session}
use Rattle.reserving.specs.declared.session.SessionGroup.{SessionGroup}
use Rattle.ledger.specs.Ledger.{is_same}
use Rattle.reserving.specs.Sessions.{is_session, is_of, is_open, session_in, group_in}
use Rattle.reserving.specs.Sessions.{counter_in, is_live_in}
use Rattle.reserving.specs.Changes.{lapse, lapse_group, lapsed_in}
use Rattle.ledger.specs.Lists.{EachIn}
use Rattle.reserving.specs.Rows.{AccountRows, AreApart}
use Rattle.reserving.specs.Stored.{StoredRows, IsStored, priced}
use Rattle.reserving.specs.Left.{is_dead, bucket_in, none_left}
use Rattle.reserving.proofs.Lists.{no_some, not_both, AreApart-map, EachIn-weaker}
use Rattle.reserving.proofs.Keys.{first_true, second_true}
use Rattle.reserving.proofs.KeysFound.{placed, unplaced, is_none_is}
use Rattle.reserving.proofs.kept.Ordered.{lapsed_name}
use Rattle.reserving.proofs.Advancing.{session_in-advanced}
use Rattle.reserving.proofs.LeftTests.{each_filter, each_passes, each_append, apart_filter}
use Rattle.reserving.proofs.LeftTests.{apart_append, none_each}
use Rattle.ledger.specs.Pricing.{validity_of}
use Rattle.keepers.specs.Parts.{Parts, AreParts, leaves_bucket, leaves_counter, leaves_session}
use Rattle.keepers.specs.Parts.{leaves_group, left_after, with_live, advanced_parts}
use Rattle.keepers.specs.Keyed.{same_bucket, same_session, same_group, same_counter}
use Rattle.keepers.proofs.Found.{distinct_apart}

-- ---- places

some_is : {A : Type 0} (o : Option A) (x : A) → o ≡ Some x → true ≡ is_some o
some_is o x e = sym (ap is_some e)

some_found : {A : Type 0} (q : A → Bool) (ys : List A) (n : ℕ) → position q ys ≡ Some n →
    true ≡ is_some (find q ys)
some_found q [] n e = absurd (no_some n e)
some_found q (y ∷ ys) n e =
    some_is (find q (y ∷ ys)) (get_or (y ∷ ys) n y)
    ((placed (λ x z. false) q y n (y ∷ ys) e).found y)

pub placed_found : {A : Type 0} (q : A → Bool) (xs : List A) →
    is_some (position q xs) ≡ is_some (find q xs)
placed_found q xs = at (position q xs) refl
  where
    at : (o : Option ℕ) → position q xs ≡ o → is_some o ≡ is_some (find q xs)
    at None e = sym (ap is_some (unplaced q xs e))
    at (Some n) e = some_found q xs n e

pub if_ok : {X E : Type 0} (r : Result X E) {P Q : X → Type 0} → IfOk r P → ((x : X) → P x → Q x) →
    IfOk r Q
if_ok (Ok x) h k = k x h
if_ok (Err e) h k = tt

pub ok_then : {X E P Q : Type 0} (r : Result X E) → OnOk r P → (P → Q) → OnOk r Q
ok_then (Ok x) p f = f p
ok_then (Err e) p f = tt

-- ---- what is left once the rows are others

none_of : {A : Type 0} (o : Option A) → not (is_some o) ≡ true → o ≡ None
none_of None e = refl
none_of (Some x) e = absurd (not_both e)

pub apart_with : {A : Type 0} (same : A → A → Bool) (p : A → Bool) (before after : List A) →
    AreApart same before → AreApart same after →
    ((y : A) → p y ≡ true → find (same y) after ≡ None) → AreApart same (filter p before ++ after)
apart_with same p before after hb ha gone =
    apart_append same (filter p before) after (apart_filter same p before hb) ha
    (EachIn-weaker (λ y. p y ≡ true) (λ y. EachIn (λ z. same y z ≡ false) after) (filter p before)
    (λ y e. none_each (same y) after (gone y e)) (each_passes p before))

pub each_in : (P : BucketRow → Type 0) (xs : List BucketRow) → Each P xs → EachIn P xs
each_in P [] h = tt
each_in P (x ∷ xs) h = (h.0, each_in P xs h.1)

pub parts_replaced : (w : StoredRows) (p : Parts) → IsStored w → IsStored p.live → AreParts p →
    AreParts (with_live w p)
parts_replaced w p is live h = record {
  buckets = apart_with same_bucket (leaves_bucket w) (p.left.buckets ++ p.live.buckets) w.buckets
      h.buckets (distinct_apart w.buckets is.sound.distinct)
      (λ y e. none_of (bucket_in y.number w.buckets) (second_true (is_dead y) _ e));
  counters = apart_with same_counter (leaves_counter w)
      (p.left.counters ++ p.live.counters) w.counters h.counters is.counters
      (λ y e. none_of (counter_in y.group y.cycle w.counters) e);
  sessions = apart_with same_session (leaves_session w)
      (p.left.sessions ++ p.live.sessions) w.sessions h.sessions is.sessions
      (λ y e. none_of (session_in y.id w.sessions) (second_true (not (is_open y.state)) _ e));
  groups = apart_with same_group (leaves_group w) (p.left.groups ++ p.live.groups) w.groups h.groups
      is.groups
      (λ y e. none_of (group_in y.session y.group w.groups)
      (second_true (not (is_some (session_in y.session w.sessions))) _
      (second_true (not (is_some y.reservation)) _ e)));
  dead = EachIn-weaker (λ y. leaves_bucket w y ≡ true) (λ y. is_dead y ≡ true)
      (left_after w p).buckets (λ y e. first_true (is_dead y) _ e)
      (each_passes (leaves_bucket w) (p.left.buckets ++ p.live.buckets));
  over = EachIn-weaker (λ y. leaves_session w y ≡ true) (λ y. is_open y.state ≡ false)
      (left_after w p).sessions
      (λ y e. not-true (is_open y.state) (first_true (not (is_open y.state)) _ e))
      (each_passes (leaves_session w) (p.left.sessions ++ p.live.sessions));
  free = EachIn-weaker (λ y. leaves_group w y ≡ true) (λ y. is_some y.reservation ≡ false)
      (left_after w p).groups (λ y e.
      not-true (is_some y.reservation) (first_true (not (is_some y.reservation)) _ e))
      (each_passes (leaves_group w) (p.left.groups ++ p.live.groups));
  others = EachIn-weaker (λ y. leaves_group w y ≡ true)
      (λ y. is_some (session_in y.session w.sessions) ≡ false) (left_after w p).groups
      (λ y e. not-true (is_some (session_in y.session w.sessions))
      (first_true (not (is_some (session_in y.session w.sessions))) _
      (second_true (not (is_some y.reservation)) _ e)))
      (each_passes (leaves_group w) (p.left.groups ++ p.live.groups));
  balanced = each_filter IsBalanced (leaves_bucket w) (p.left.buckets ++ p.live.buckets)
      (each_append IsBalanced p.left.buckets p.live.buckets h.balanced
      (each_in IsBalanced p.live.buckets live.sound.balanced));
  used = each_filter (λ r. r.used ≤ 1000000000000000000) (leaves_group w)
      (p.left.groups ++ p.live.groups)
      (each_append (λ r. r.used ≤ 1000000000000000000) p.left.groups p.live.groups h.used
      live.used);
  counted = each_filter (λ c. c.blocks ≤ 4000000000000000000) (leaves_counter w)
      (p.left.counters ++ p.live.counters)
      (each_append (λ c. c.blocks ≤ 4000000000000000000) p.left.counters p.live.counters h.counted
      live.counted);
}

pub parts_new : (w : StoredRows) → IsStored w → AreParts (record { live = w; left = none_left })
parts_new w is = record {
  buckets = distinct_apart w.buckets is.sound.distinct;
  counters = is.counters;
  sessions = is.sessions;
  groups = is.groups;
  dead = tt;
  over = tt;
  free = tt;
  others = tt;
  balanced = tt;
  used = tt;
  counted = tt;
}

-- ---- time goes on

each_behind : {A : Type 0} (P : A → Type 0) (f : A → A) (xs ys : List A) →
    ((y : A) → P y → P (f y)) → EachIn P (xs ++ ys) → EachIn P (xs ++ map f ys)
each_behind P f [] [] k h = tt
each_behind P f [] (y ∷ ys) k h = (k y h.0, each_behind P f [] ys k h.1)
each_behind P f (x ∷ xs) ys k h = (h.0, each_behind P f xs ys k h.1)

apart_behind : {A : Type 0} (same : A → A → Bool) (f : A → A) (xs ys : List A) →
    ((x y : A) → same (f x) y ≡ same x y) → ((x y : A) → same x (f y) ≡ same x y) →
    AreApart same (xs ++ ys) → AreApart same (xs ++ map f ys)
apart_behind same f [] ys k l h = AreApart-map same f ys (λ x y. k x (f y) ∙ l x y) h
apart_behind same f (x ∷ xs) ys k l h = (
  each_behind (λ y. same x y ≡ false) f xs ys (λ y e. l x y ∙ e) h.0,
  apart_behind same f xs ys k l h.1,
)

pub parts_advanced : (shelf : Shelf) (t : ℕ) (p : Parts) → AreParts p →
    AreParts (advanced_parts shelf t p)
parts_advanced shelf t p h = record {
  buckets = apart_behind same_bucket later p.left.buckets p.live.buckets
      (λ x y. ap (λ n. y.number == n) (number x)) (λ x y. ap (λ n. n == x.number) (number y))
      h.buckets;
  counters = h.counters;
  sessions = apart_behind same_session (lapse (validity_of shelf) t) p.left.sessions p.live.sessions
      (λ x y. ap (λ s. is_session s y) (id_of x)) (λ x y. ap (λ s. is_same s x.id) (id_of y))
      h.sessions;
  groups = apart_behind same_group (lapse_group keeps) p.left.groups p.live.groups group_first
      group_second h.groups;
  dead = h.dead;
  over = h.over;
  free = h.free;
  others = EachIn-weaker _ _ p.left.groups
      (λ r e. ap is_some (session_in-advanced r.session t a
      (is_none_is (session_in r.session a.sessions) e))) h.others;
  balanced = h.balanced;
  used = h.used;
  counted = h.counted;
}
  where
    a : AccountRows
    a = priced shelf p.live

    keeps : List ℕ → Bool
    keeps = is_live_in (validity_of shelf) t p.live.sessions

    later : BucketRow → BucketRow
    later b = with_end t (with_release t b (lapsed_in keeps p.live.groups b))

    number : (b : BucketRow) → (later b).number ≡ b.number
    number b = (with_end_keeps t).number (with_release t b (lapsed_in keeps p.live.groups b))
        ∙ with_release_number t b (lapsed_in keeps p.live.groups b)

    id_of : (r : Session) → (lapse (validity_of shelf) t r).id ≡ r.id
    id_of r = lapsed_name (validity_of shelf) t r

    by_keep : (r y : SessionGroup) (k : Bool) →
        is_of (if k then r else record r { reservation = None }).session
        (if k then r else record r { reservation = None }).group y ≡ is_of r.session r.group y
    by_keep r y true = refl
    by_keep r y false = refl

    by_keep_too : (r y : SessionGroup) (k : Bool) →
        is_of r.session r.group (if k then y else record y { reservation = None }) ≡
        is_of r.session r.group y
    by_keep_too r y true = refl
    by_keep_too r y false = refl

    group_first : (x y : SessionGroup) → same_group (lapse_group keeps x) y ≡ same_group x y
    group_first x y = by_keep x y (keeps x.session)

    group_second : (x y : SessionGroup) → same_group x (lapse_group keeps y) ≡ same_group x y
    group_second x y = by_keep_too x y (keeps y.session)
