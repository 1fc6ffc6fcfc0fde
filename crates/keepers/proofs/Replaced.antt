-- What is left once the rows are others, by what a store in memory does: those that leave are
-- behind, and what there are rows of again goes.
use Rattle.std.proofs.Common.{◌≡◌, ℕ, zero, suc, ◌+◌, ◌<◌, Bool, true, false, List, [], ◌∷◌}
use Rattle.std.proofs.Common.{◌++◌, length, take, get_or, sym, ap, subst, ◌∙◌, arith}
use Rattle.std.specs.Prelude.{not, filter, is_some}
use Rattle.std.proofs.lemmas.Bool.{not-true}
use Rattle.buckets.specs.Row.{BucketRow}
use Rattle.reserving.specs.declared.session.Session.{Session}
use Rattle.reserving.specs.declared.session.SessionGroup.{SessionGroup}
use Rattle.reserving.specs.declared.session.Counter.{Counter}
use Rattle.ledger.specs.Lists.{EachIn}
use Rattle.reserving.specs.Stored.{StoredRows}
use Rattle.reserving.specs.Sessions.{is_open}
use Rattle.reserving.specs.Left.{is_dead}
use Rattle.reserving.proofs.Keys.{first_true}
use Rattle.reserving.proofs.Lists.{EachIn-weaker}
use Rattle.reserving.proofs.order.Searched.{no_less}
use Rattle.reserving.proofs.LeftTests.{each_append, each_passes, each_with}
use Rattle.keepers.specs.Parts.{leaves_bucket, leaves_session, leaves_group}
use Rattle.keepers.specs.Named.{Numbers, Names, is_numbered, is_named, AreLeftBuckets}
use Rattle.keepers.specs.Named.{AreLeftCounters, AreLeftSessions, AreLeftGroups}
use Rattle.keepers.proofs.Unchanged.{filter_both}

pub left_is : {A : Type 0} (p : A → Bool) (old live mid more back new : List A) → mid ≡ old →
    more ≡ filter p live → back ≡ mid ++ more → new ≡ filter p back → new ≡ filter p (old ++ live)
left_is p old live mid more back new e f g h = h ∙ ap (filter p) (g ∙ (λ i. e i ++ f i))
    ∙ filter_both p old live

-- those behind that were left and those that leave
both_known : {A : Type 0} (P Q R : A → Type 0) (p : A → Bool) (old live mid more back : List A) →
    ((x : A) → p x ≡ true → Q x → R x) → ((x : A) → P x → R x) → EachIn P old → EachIn Q more →
    mid ≡ old → more ≡ filter p live → back ≡ mid ++ more → EachIn R back
both_known P Q R p old live mid more back now then h k e f g =
    subst (EachIn R) (sym (g ∙ (λ i. e i ++ more)))
    (each_append R old more (EachIn-weaker P R old then h)
    (each_with (λ x. p x ≡ true) Q R more now
    (subst (EachIn (λ x. p x ≡ true)) (sym f) (each_passes p live)) k))

pub buckets_known : (w : StoredRows) (was is : Numbers) (old live mid more back : List BucketRow) →
    ((n : ℕ) → is_numbered was n ≡ true → is_numbered is n ≡ true) → AreLeftBuckets was old →
    EachIn (λ b. is_numbered is b.number ≡ true) more → mid ≡ old →
    more ≡ filter (leaves_bucket w) live → back ≡ mid ++ more → AreLeftBuckets is back
buckets_known w was is old live mid more back stay h k e f g =
    both_known (λ b. (is_dead b ≡ true) × (is_numbered was b.number ≡ true))
    (λ b. is_numbered is b.number ≡ true)
    (λ b. (is_dead b ≡ true) × (is_numbered is b.number ≡ true))
    (leaves_bucket w) old live mid more back
    (λ b d n. (first_true (is_dead b) _ d, n)) (λ b r. (r.0, stay b.number r.1)) h k e f g

pub counters_known : (was is : Numbers) (old mid more back : List Counter) →
    ((n : ℕ) → is_numbered was n ≡ true → is_numbered is n ≡ true) → AreLeftCounters was old →
    AreLeftCounters is more → mid ≡ old → back ≡ mid ++ more → AreLeftCounters is back
counters_known was is old mid more back stay h k e g =
    subst (AreLeftCounters is) (sym (g ∙ (λ i. e i ++ more)))
    (each_append (λ c. is_numbered is c.cycle ≡ true) old more
    (EachIn-weaker (λ c. is_numbered was c.cycle ≡ true) (λ c. is_numbered is c.cycle ≡ true) old
    (λ c r. stay c.cycle r) h) k)

pub sessions_known : (w : StoredRows) (was is : Names) (old live mid more back : List Session) →
    ((s : List ℕ) → is_named was s ≡ true → is_named is s ≡ true) → AreLeftSessions was old →
    EachIn (λ r. is_named is r.id ≡ true) more → mid ≡ old → more ≡ filter (leaves_session w) live →
    back ≡ mid ++ more → AreLeftSessions is back
sessions_known w was is old live mid more back stay h k e f g =
    both_known (λ r. (is_open r.state ≡ false) × (is_named was r.id ≡ true))
    (λ r. is_named is r.id ≡ true) (λ r. (is_open r.state ≡ false) × (is_named is r.id ≡ true))
    (leaves_session w) old live mid more back
    (λ r d n. (not-true (is_open r.state) (first_true (not (is_open r.state)) _ d), n))
    (λ r x. (x.0, stay r.id x.1)) h k e f g

pub groups_known : (w : StoredRows) (was is : Names) (old live mid more back : List SessionGroup) →
    ((s : List ℕ) → is_named was s ≡ true → is_named is s ≡ true) → AreLeftGroups was old →
    EachIn (λ r. is_named is r.session ≡ true) more → mid ≡ old →
    more ≡ filter (leaves_group w) live → back ≡ mid ++ more → AreLeftGroups is back
groups_known w was is old live mid more back stay h k e f g =
    both_known (λ r. (is_some r.reservation ≡ false) × (is_named was r.session ≡ true))
    (λ r. is_named is r.session ≡ true)
    (λ r. (is_some r.reservation ≡ false) × (is_named is r.session ≡ true))
    (leaves_group w) old live mid more back
    (λ r d n. (not-true (is_some r.reservation) (first_true (not (is_some r.reservation)) _ d), n))
    (λ r x. (x.0, stay r.session x.1)) h k e f g

-- ---- a list as far as it was walked

each_on : {A : Type 0} (P : A → Type 0) (xs : List A) (i : ℕ) (d : A) → EachIn P (take i xs) →
    i < length xs → P (get_or xs i d) → EachIn P (take (suc i) xs)
each_on P [] i d h less k = absurd (no_less i less)
each_on P (x ∷ xs) zero d h less k = (k, tt)
each_on P (x ∷ xs) (suc i) d h less k = (h.0, each_on P xs i d h.1 (omega (arith, less)) k)

pub each_next : {A : Type 0} (P : A → Type 0) (xs : List A) (i : ℕ) (d : A) → EachIn P (take i xs) →
    i < length xs → P (get_or xs i d) → EachIn P (take (i + 1) xs)
each_next P xs i d h less k =
    let one : suc i ≡ i + 1 = omega arith in
    subst (λ (n : ℕ). EachIn P (take n xs)) one (each_on P xs i d h less k)

-- with more known
pub each_stays : {A : Type 0} (P Q : A → Type 0) (xs : List A) (i : ℕ) → ((x : A) → P x → Q x) →
    EachIn P (take i xs) → EachIn Q (take i xs)
each_stays P Q xs i k h = EachIn-weaker P Q (take i xs) k h
