-- What was left stays as it is where no row has a key of its.
use Rattle.std.proofs.Common.{◌≡◌, ℕ, Bool, true, false, cond, List, [], ◌∷◌, ◌++◌, refl, sym, ap}
use Rattle.std.proofs.Common.{◌∙◌, Option, Some, None}
use Rattle.std.specs.Prelude.{◌==◌, ◌||◌, not, filter, is_some}
use Rattle.std.specs.List.{find, list_any}
use Rattle.std.proofs.lemmas.Bool.{not_from_false}
use Rattle.buckets.specs.Row.{BucketRow}
use Rattle.reserving.specs.declared.session.Session.{Session}
use Rattle.reserving.specs.declared.session.SessionGroup.{SessionGroup}
use Rattle.reserving.specs.declared.session.Counter.{Counter}
use Rattle.ledger.specs.Ledger.{is_same}
use Rattle.ledger.specs.Lists.{EachIn}
use Rattle.reserving.specs.Stored.{StoredRows}
use Rattle.reserving.specs.Sessions.{is_session, is_of, is_counter, is_open, session_in, group_in}
use Rattle.reserving.specs.Sessions.{counter_in}
use Rattle.reserving.specs.Left.{is_dead, bucket_in}
use Rattle.reserving.proofs.Lists.{not_both, some_of, no_some, find-passes, EachIn-weaker}
use Rattle.reserving.proofs.Keys.{first_true, second_true, both_true, same_number}
use Rattle.ledger.proofs.Holds.{same_from}
use Rattle.keepers.specs.Parts.{leaves_bucket, leaves_counter, leaves_session, leaves_group}
use Rattle.keepers.specs.Named.{Numbers, Names, is_numbered, is_named, AreLeftBuckets}
use Rattle.keepers.specs.Named.{AreLeftCounters, AreLeftSessions, AreLeftGroups}

-- all pass: nothing is filtered out
all_pass : {A : Type 0} (p : A → Bool) (xs : List A) → EachIn (λ x. p x ≡ true) xs →
    xs ≡ filter p xs
all_pass p [] h = refl
all_pass p (x ∷ xs) h = ap (λ ys. x ∷ ys) (all_pass p xs h.1)
    ∙ sym (ap (λ t. cond t (x ∷ filter p xs) (filter p xs)) h.0)

-- one that is found passes, so that not none does
pub any_found : {A : Type 0} (q p : A → Bool) (xs : List A) (x : A) → find q xs ≡ Some x →
    p x ≡ true → list_any p xs ≡ true
any_found q p [] x e k = absurd (no_some x e)
any_found {A} q p (y ∷ ys) x e k = at (q y) e (λ f. any_found q p ys x f k)
  where
    more : (t u : Bool) → u ≡ true → (t || u) ≡ true
    more true u f = refl
    more false u f = f

    at : (t : Bool) → cond t (Some y) (find q ys) ≡ Some x →
        (find q ys ≡ Some x → list_any p ys ≡ true) → (p y || list_any p ys) ≡ true
    at true f rest = ap (λ b. b || list_any p ys) (ap p (some_of y x f) ∙ k)
    at false f rest = more (p y) (list_any p ys) (rest f)

none_found : {A : Type 0} (q p : A → Bool) (xs : List A) → list_any p xs ≡ false →
    ((x : A) → find q xs ≡ Some x → p x ≡ true) → is_some (find q xs) ≡ false
none_found {A} q p xs none is = at (find q xs) refl
  where
    at : (o : Option A) → find q xs ≡ o → is_some o ≡ false
    at None e = refl
    at (Some x) e = absurd (not_both (sym none ∙ any_found q p xs x e (is x e)))

pub buckets_stay : (w : StoredRows) (numbers : Numbers) (rows : List BucketRow) →
    AreLeftBuckets numbers rows → list_any (λ (b : BucketRow). is_numbered numbers b.number)
    w.buckets ≡
    false → rows ≡ filter (leaves_bucket w) rows
buckets_stay w numbers rows h none =
    all_pass (leaves_bucket w) rows
    (EachIn-weaker (λ b. (is_dead b ≡ true) × (is_numbered numbers b.number ≡ true))
    (λ b. leaves_bucket w b ≡ true) rows
    (λ b e. both_true (is_dead b) _ e.0 (not_from_false (is_some (bucket_in b.number w.buckets))
    (none_found (λ x. x.number == b.number) (λ x. is_numbered numbers x.number) w.buckets none
    (λ x f. ap (is_numbered numbers)
    (same_number x.number b.number (find-passes (λ y. y.number == b.number) w.buckets x f))
    ∙ e.1)))) h)

pub counters_stay : (w : StoredRows) (cycles : Numbers) (rows : List Counter) →
    AreLeftCounters cycles rows →
    list_any (λ (c : Counter). is_numbered cycles c.cycle) w.counters ≡ false →
    rows ≡ filter (leaves_counter w) rows
counters_stay w cycles rows h none =
    all_pass (leaves_counter w) rows
    (EachIn-weaker (λ c. is_numbered cycles c.cycle ≡ true) (λ c. leaves_counter w c ≡ true) rows
    (λ c e. not_from_false (is_some (counter_in c.group c.cycle w.counters))
    (none_found (is_counter c.group c.cycle) (λ x. is_numbered cycles x.cycle) w.counters none
    (λ x f. ap (is_numbered cycles)
    (same_number x.cycle c.cycle
    (second_true (x.group == c.group) (x.cycle == c.cycle)
    (find-passes (is_counter c.group c.cycle) w.counters x f))) ∙ e))) h)

session_away : (w : StoredRows) (names : Names) (s : List ℕ) → is_named names s ≡ true →
    list_any (λ (r : Session). is_named names r.id) w.sessions ≡ false →
    is_some (session_in s w.sessions) ≡ false
session_away w names s e none =
    none_found (is_session s) (λ x. is_named names x.id) w.sessions none
    (λ x f. ap (is_named names) (same_from x.id s (find-passes (is_session s) w.sessions x f)) ∙ e)

-- a session that is there is known only where one of them is
pub unknown_there : (names : Names) (s : List ℕ) (rows : List Session) →
    list_any (λ (r : Session). is_named names r.id) rows ≡ false →
    is_some (session_in s rows) ≡ true → is_named names s ≡ false
unknown_there names s rows none there = at (is_named names s) refl
  where
    at : (t : Bool) → is_named names s ≡ t → is_named names s ≡ false
    at false e = e
    at true e =
        let away : is_some (session_in s rows) ≡ false =
        none_found (is_session s) (λ x. is_named names x.id) rows none
        (λ x f. ap (is_named names) (same_from x.id s (find-passes (is_session s) rows x f)) ∙ e)
        in absurd (not_both (sym away ∙ there))

pub sessions_stay : (w : StoredRows) (names : Names) (rows : List Session) →
    AreLeftSessions names rows → list_any (λ (r : Session). is_named names r.id) w.sessions ≡
    false → rows ≡ filter (leaves_session w) rows
sessions_stay w names rows h none =
    all_pass (leaves_session w) rows
    (EachIn-weaker (λ r. (is_open r.state ≡ false) × (is_named names r.id ≡ true))
    (λ r. leaves_session w r ≡ true) rows
    (λ r e. both_true (not (is_open r.state)) _ (not_from_false (is_open r.state) e.0)
    (not_from_false (is_some (session_in r.id w.sessions)) (session_away w names r.id e.1 none)))
    h)

pub groups_stay : (w : StoredRows) (names : Names) (rows : List SessionGroup) →
    AreLeftGroups names rows → list_any (λ (r : Session). is_named names r.id) w.sessions ≡ false →
    list_any (λ (r : SessionGroup). is_named names r.session) w.groups ≡ false →
    rows ≡ filter (leaves_group w) rows
groups_stay w names rows h none other =
    all_pass (leaves_group w) rows
    (EachIn-weaker (λ r. (is_some r.reservation ≡ false) × (is_named names r.session ≡ true))
    (λ r. leaves_group w r ≡ true) rows
    (λ r e. both_true (not (is_some r.reservation)) _ (not_from_false (is_some r.reservation) e.0)
    (both_true (not (is_some (session_in r.session w.sessions))) _
    (not_from_false (is_some (session_in r.session w.sessions))
    (session_away w names r.session e.1 none))
    (not_from_false (is_some (group_in r.session r.group w.groups)) (group_away r e.1)))) h)
  where
    group_away : (r : SessionGroup) → is_named names r.session ≡ true →
        is_some (group_in r.session r.group w.groups) ≡ false
    group_away r e =
        none_found (is_of r.session r.group) (λ x. is_named names x.session) w.groups other
        (λ x f. ap (is_named names)
        (same_from x.session r.session
        (first_true (is_same x.session r.session) (x.group == r.group)
        (find-passes (is_of r.session r.group) w.groups x f))) ∙ e)

-- ---- those that were left, and those that leave now

twice : {A : Type 0} (p : A → Bool) (ys : List A) → filter p (filter p ys) ≡ filter p ys
twice p [] = refl
twice p (y ∷ ys) = at (p y) refl (twice p ys)
  where
    at : (t : Bool) → p y ≡ t → filter p (filter p ys) ≡ filter p ys →
        filter p (cond t (y ∷ filter p ys) (filter p ys)) ≡ cond t (y ∷ filter p ys) (filter p ys)
    at true e rest = ap (λ t. cond t (y ∷ filter p (filter p ys)) (filter p (filter p ys))) e
        ∙ ap (λ zs. y ∷ zs) rest
    at false e rest = rest

pub filter_both : {A : Type 0} (p : A → Bool) (xs ys : List A) →
    filter p (xs ++ filter p ys) ≡ filter p (xs ++ ys)
filter_both p [] ys = twice p ys
filter_both p (x ∷ xs) ys = ap (λ zs. cond (p x) (x ∷ zs) zs) (filter_both p xs ys)
