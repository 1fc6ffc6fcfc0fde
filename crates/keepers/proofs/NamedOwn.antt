-- To name the rows of one session alone is to name all that differ, where no row of another session
-- has changed.
use Rattle.std.proofs.Common.{◌≡◌, ℕ, Bool, true, false, cond, List, [], ◌∷◌, refl, sym, ap, subst}
use Rattle.std.proofs.Common.{◌∙◌, Option, Some, None}
use Rattle.std.specs.Prelude.{not, ◌||◌, ◌==◌, filter}
use Rattle.std.specs.List.{list_any}
use Rattle.std.specs.Cmp.Lexicographic.{pointwise}
use Rattle.std.proofs.lemmas.Bool.{and_parts}
use Rattle.identifiers.proofs.Equality.{equal_names}
use Rattle.buckets.specs.Row.{BucketRow, IsBalanced}
use Rattle.buckets.specs.declared.holds.HeldAmount.{HeldAmount}
use Rattle.reserving.specs.declared.session.Counter.{Counter}
use Rattle.reserving.specs.declared.session.Session.{Session}
use Rattle.reserving.specs.declared.session.SessionState.{SessionState}
use Rattle.reserving.specs.declared.session.SessionState.TheVariants.{Open, Ended, NeverOpened}
use Rattle.reserving.specs.declared.session.SessionGroup.{SessionGroup}
use Rattle.reserving.specs.declared.session.Reservation.{Reservation}
use Rattle.ledger.specs.declared.terms.Terms.{Terms}
use Rattle.ledger.specs.Ledger.{is_same}
use Rattle.reserving.specs.Left.{differing}
use Rattle.ledger.specs.Lists.{EachIn}
use Rattle.reserving.specs.Sessions.{is_session, session_in}
use Rattle.reserving.specs.Earlier.{AreEarlier, rows_in, earlier_of, own_stored}
use Rattle.reserving.specs.Stored.{StoredRows, IsStored}
use Rattle.reserving.specs.Others.{own_sessions, own_groups, other_sessions, other_groups}
use Rattle.ledger.proofs.Names.{is_same-refl, number_same}
use Rattle.reserving.proofs.OwnEarlier.{own_row}
use Rattle.reserving.proofs.Keys.{both_true}
use Rattle.reserving.proofs.Lists.{EachIn-weaker, not_both}
use Rattle.reserving.proofs.LeftTests.{each_filter, each_passes, apart_filter}
use Rattle.keepers.specs.Keyed.{same_bucket, same_session, same_group, same_counter}
use Rattle.keepers.specs.Differing.{equal_session, equal_group, equal_hold, equal_terms}
use Rattle.keepers.specs.Differing.{equal_reservation, same_state, named_rows, named_rows_of}
use Rattle.keepers.specs.Differing.{equal_bucket, equal_counter, is_changed, named_for}
use Rattle.keepers.specs.Naming.{IsNamed}
use Rattle.keepers.proofs.Found.{distinct_apart}
use Rattle.keepers.proofs.PartsKept.{each_in}

-- ---- a row equals itself

state_itself : (x : SessionState) → same_state x x ≡ true
state_itself Open = refl
state_itself Ended = refl
state_itself NeverOpened = refl

session_itself : (x : Session) → equal_session x x ≡ true
session_itself x =
    let number = both_true (is_same x.id x.id) (x.last_number == x.last_number)
    (is_same-refl x.id) (number_same x.last_number) in
    let touched = both_true _ (x.touched == x.touched) number (number_same x.touched) in
    both_true _ (same_state x.state x.state) touched (state_itself x.state)

holds_themselves : (xs : List HeldAmount) → pointwise equal_hold xs xs ≡ true
holds_themselves [] = refl
holds_themselves (x ∷ xs) =
    both_true (equal_hold x x) (pointwise equal_hold xs xs)
    (both_true (x.bucket == x.bucket) (x.amount == x.amount) (number_same x.bucket)
    (number_same x.amount)) (holds_themselves xs)

terms_themselves : (x : Terms) → equal_terms x x ≡ true
terms_themselves x =
    both_true (x.book == x.book) _ (number_same x.book)
    (both_true (x.periods.before.0 == x.periods.before.0) _ (number_same x.periods.before.0)
    (number_same x.periods.after.0))

reservation_itself : (o : Option Reservation) → equal_reservation o o ≡ true
reservation_itself None = refl
reservation_itself (Some x) =
    both_true (equal_terms x.terms x.terms) (pointwise equal_hold x.holds x.holds)
    (terms_themselves x.terms) (holds_themselves x.holds)

group_itself : (x : SessionGroup) → equal_group x x ≡ true
group_itself x =
    let group = both_true (is_same x.session x.session) (x.group == x.group)
    (is_same-refl x.session) (number_same x.group) in
    let used = both_true _ (x.used == x.used) group (number_same x.used) in
    both_true _ (equal_reservation x.reservation x.reservation) used
    (reservation_itself x.reservation)

-- ---- lists of which the other rows are the same

or_later : (p : Bool) → (p || true) ≡ true
or_later true = refl
or_later false = refl

module _ {A : Type 0} (eq : A → A → Bool) (itself : (x : A) → eq x x ≡ true) where
  among : (xs : List A) → EachIn (λ r. list_any (eq r) xs ≡ true) xs
  among [] = tt
  among (x ∷ xs) = (
    ap (λ t. t || list_any (eq x) xs) (itself x),
    EachIn-weaker (λ r. list_any (eq r) xs ≡ true) (λ r. list_any (eq r) (x ∷ xs) ≡ true) xs
        (λ r h. ap (λ t. eq r x || t) h ∙ or_later (eq r x)) (among xs),
  )

  -- the other rows differ from none before
  pub known : (q : A → Bool) (before after : List A) → filter q after ≡ filter q before →
      EachIn (λ r. not (list_any (eq r) before) ≡ false) (filter q after)
  known q before after same =
      subst (EachIn (λ r. not (list_any (eq r) before) ≡ false)) (sym same)
      (EachIn-weaker (λ r. list_any (eq r) before ≡ true)
      (λ r. not (list_any (eq r) before) ≡ false) (filter q before) (λ r h. ap not h)
      (each_filter (λ r. list_any (eq r) before ≡ true) q before (among before)))

-- where the others don't pass, those that pass are of these
own_pass : {A : Type 0} (new mine : A → Bool) (xs : List A) →
    EachIn (λ r. new r ≡ false) (filter (λ r. not (mine r)) xs) →
    filter new (filter mine xs) ≡ filter new xs
own_pass new mine [] h = refl
own_pass new mine (x ∷ xs) h = at (mine x) h (own_pass new mine xs)
  where
    at : (t : Bool) →
        EachIn (λ r. new r ≡ false)
        (cond (not t) (x ∷ filter (λ r. not (mine r)) xs) (filter (λ r. not (mine r)) xs)) →
        (EachIn (λ r. new r ≡ false) (filter (λ r. not (mine r)) xs) →
        filter new (filter mine xs) ≡ filter new xs) →
        filter new (cond t (x ∷ filter mine xs) (filter mine xs))
        ≡ cond (new x) (x ∷ filter new xs) (filter new xs)
    at true g rest = ap (λ l. cond (new x) (x ∷ l) l) (rest g)
    at false g rest =
        rest g.1 ∙ ap (λ t. cond t (x ∷ filter new xs) (filter new xs)) (sym g.0)

-- two tests that are alike on each row
alike_pass : {A : Type 0} (f g : A → Bool) (xs : List A) → EachIn (λ r. f r ≡ g r) xs →
    filter f xs ≡ filter g xs
alike_pass f g [] h = refl
alike_pass f g (x ∷ xs) h =
    ap (λ t. cond t (x ∷ filter f xs) (filter f xs)) h.0
    ∙ ap (λ l. cond (g x) (x ∷ l) l) (alike_pass f g xs h.1)

-- what only some rows can be is looked for among these
any_own : {A : Type 0} (p mine : A → Bool) → ((y : A) → p y ≡ true → mine y ≡ true) →
    (xs : List A) → list_any p (filter mine xs) ≡ list_any p xs
any_own p mine k [] = refl
any_own p mine k (x ∷ xs) = at (mine x) (p x) refl refl (any_own p mine k xs)
  where
    at : (t u : Bool) → mine x ≡ t → p x ≡ u →
        list_any p (filter mine xs) ≡ list_any p xs →
        list_any p (cond t (x ∷ filter mine xs) (filter mine xs)) ≡ (u || list_any p xs)
    at true u e g rest = λ i. g i || rest i
    at false true e g rest = absurd (not_both (sym e ∙ k x g))
    at false false e g rest = rest

module _ {A : Type 0} (eq : A → A → Bool) (itself : (x : A) → eq x x ≡ true) (mine : A → Bool)
    (alone : (x y : A) → mine x ≡ true → eq x y ≡ true → mine y ≡ true) where
  pub own_differ : (before after : List A) →
      filter (λ r. not (mine r)) after ≡ filter (λ r. not (mine r)) before →
      differing eq (filter mine before) (filter mine after) ≡ differing eq before after
  own_differ before after same =
      alike_pass (λ r. not (list_any (eq r) (filter mine before)))
      (λ r. not (list_any (eq r) before)) (filter mine after)
      (EachIn-weaker (λ r. mine r ≡ true)
      (λ r. not (list_any (eq r) (filter mine before)) ≡ not (list_any (eq r) before))
      (filter mine after)
      (λ r m. ap not (any_own (eq r) mine (λ y e. alone r y m e) before))
      (each_passes mine after))
      ∙ own_pass (λ r. not (list_any (eq r) before)) mine after
      (known eq itself (λ r. not (mine r)) before after same)

-- ---- sessions and groups

session_alone : (s : List ℕ) (x y : Session) → is_session s x ≡ true → equal_session x y ≡ true →
    is_session s y ≡ true
session_alone s x y mine e =
    let touched = and_parts _ (same_state x.state y.state) e in
    let number = and_parts _ (x.touched == y.touched) touched.0 in
    let name = and_parts (is_same x.id y.id) (x.last_number == y.last_number) number.0 in
    ap (λ n. is_same n s) (sym (equal_names x.id y.id name.0)) ∙ mine

group_alone : (s : List ℕ) (x y : SessionGroup) → is_same x.session s ≡ true →
    equal_group x y ≡ true → is_same y.session s ≡ true
group_alone s x y mine e =
    let used = and_parts _ (equal_reservation x.reservation y.reservation) e in
    let group = and_parts _ (x.used == y.used) used.0 in
    let name = and_parts (is_same x.session y.session) (x.group == y.group) group.0 in
    ap (λ n. is_same n s) (sym (equal_names x.session y.session name.0)) ∙ mine

-- rule: database-writes.quiet-at
pub named_own : (s : List ℕ) (before after : StoredRows) →
    other_sessions s after.sessions ≡ other_sessions s before.sessions →
    other_groups s after.groups ≡ other_groups s before.groups →
    named_rows_of s before after ≡ named_rows before after
named_own s before after sessions groups = λ i. record after {
  buckets = differing equal_bucket before.buckets after.buckets;
  counters = differing equal_counter before.counters after.counters;
  sessions = own_differ equal_session session_itself (is_session s) (session_alone s)
      before.sessions after.sessions sessions i;
  groups = own_differ equal_group group_itself (λ r. is_same r.session s) (group_alone s)
      before.groups after.groups groups i;
}

-- ---- one session's rows before are enough

passed_twice : {A : Type 0} (p : A → Bool) (xs : List A) → filter p (filter p xs) ≡ filter p xs
passed_twice p [] = refl
passed_twice p (x ∷ xs) = at (p x) refl (passed_twice p xs)
  where
    at : (t : Bool) → p x ≡ t → filter p (filter p xs) ≡ filter p xs →
        filter p (cond t (x ∷ filter p xs) (filter p xs)) ≡ cond t (x ∷ filter p xs) (filter p xs)
    at true e rest =
        ap (λ t. cond t (x ∷ filter p (filter p xs)) (filter p (filter p xs))) e
        ∙ ap (λ l. x ∷ l) rest
    at false e rest = rest

-- rule: database-writes.quiet-at
pub named_earlier : (own : Option (List ℕ)) (before after : StoredRows) →
    named_for own (earlier_of own before) after ≡ named_for own before after
named_earlier None before after = refl
named_earlier (Some s) before after = λ i. record after {
  buckets = differing equal_bucket before.buckets after.buckets;
  counters = differing equal_counter before.counters after.counters;
  sessions = differing equal_session (passed_twice (is_session s) before.sessions i)
      (own_sessions s after.sessions);
  groups = differing equal_group (passed_twice (λ r. is_same r.session s) before.groups i)
      (own_groups s after.groups);
}

-- ---- what is named of one session

differs : (was : Option Session) (x : Session) →
    is_changed was x ≡ not (list_any (equal_session x) (rows_in was))
differs None x = refl
differs (Some y) x = at (equal_session x y)
  where
    at : (t : Bool) → not t ≡ not (t || false)
    at true = refl
    at false = refl

pub session_named : (s : List ℕ) (before : StoredRows) (new own : List Session)
    (was : Option Session) → AreEarlier before → new ≡ filter (is_changed was) own →
    was ≡ session_in s before.sessions →
    new ≡ differing equal_session (own_sessions s before.sessions) own
session_named s before new own was first told e =
    told ∙ (λ i. filter (λ r. differs was r i) own)
    ∙ (λ i. differing equal_session (rows_in (e i)) own)
    ∙ (λ i. differing equal_session (sym (own_row s before.sessions first.sessions) i) own)

-- of an account's rows, of which those of other sessions were given up
pub own_told : (s : List ℕ) (before after own : StoredRows) (buckets : List BucketRow)
    (counters : List Counter) (sessions : List Session) (groups mine : List SessionGroup)
    (was : Option Session) → AreEarlier before → own ≡ own_stored s after →
    buckets ≡ differing equal_bucket before.buckets own.buckets →
    counters ≡ differing equal_counter before.counters own.counters →
    sessions ≡ filter (is_changed was) own.sessions → was ≡ session_in s before.sessions →
    groups ≡ differing equal_group mine own.groups → mine ≡ own_groups s before.groups →
    record own { buckets = buckets; counters = counters; groups = groups; sessions = sessions }
    ≡ named_rows_of s before after
own_told s before after own buckets counters sessions groups mine was first e b c d f g h =
    λ i. record (e i) {
      buckets = (b ∙ (λ j. differing equal_bucket before.buckets (e j).buckets)) i;
      counters = (c ∙ (λ j. differing equal_counter before.counters (e j).counters)) i;
      sessions = (session_named s before sessions own.sessions was first d f
          ∙ (λ j. differing equal_session (own_sessions s before.sessions) (e j).sessions)) i;
      groups = (g ∙ (λ j. differing equal_group (h j) (e j).groups)) i;
    }

pub own_kept : (s : List ℕ) (before after : StoredRows) → IsStored after →
    IsNamed (named_rows_of s before after)
own_kept s before after h = record {
  apart = record {
    buckets = apart_filter same_bucket _ after.buckets (distinct_apart after.buckets
        h.sound.distinct);
    counters = apart_filter same_counter _ after.counters h.counters;
    sessions = apart_filter same_session _ (own_sessions s after.sessions)
        (apart_filter same_session (is_session s) after.sessions h.sessions);
    groups = apart_filter same_group _ (own_groups s after.groups)
        (apart_filter same_group (λ r. is_same r.session s) after.groups h.groups);
  };
  balanced = each_filter IsBalanced _ after.buckets
      (each_in IsBalanced after.buckets h.sound.balanced);
  next_bucket = h.next_bucket;
  next_charge = h.next_charge;
}
