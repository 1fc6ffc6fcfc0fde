-- What calls on a session leave of the other sessions' rows.
use Rattle.std.proofs.Common.{◌≡◌, ℕ, Bool, true, false, cond, List, [], ◌∷◌, map, refl, sym, ap}
use Rattle.std.proofs.Common.{◌∙◌, subst, Option, Some, None}
use Rattle.std.specs.Prelude.{not, ◌&&◌, ◌==◌, ◌+◌, ◌*◌, nat_lt, if◌then◌else◌, filter}
use Rattle.std.specs.List.{find, list_any}
use Rattle.std.proofs.lemmas.Bool.{and_parts}
use Rattle.identifiers.proofs.Equality.{equal_names}
use Rattle.units.specs.declared.blocks.UsedPart.{UsedPart}
use Rattle.buckets.specs.declared.kind.BucketKind.{BucketKind}
use Rattle.buckets.specs.declared.kind.Due.{Due}
use Rattle.buckets.specs.Holding.{holds_of}
use Rattle.reserving.specs.declared.session.Session.{Session}
use Rattle.reserving.specs.declared.session.SessionGroup.{SessionGroup}
use Rattle.reserving.specs.declared.session.SessionState.{SessionState}
use Rattle.reserving.specs.declared.session.SessionState.TheVariants.{Open, Ended}
use Rattle.reserving.specs.declared.reserve.Granted.{Granted}
use Rattle.reserving.specs.declared.reserve.Granted.TheVariants.{Nothing, Units}
use Rattle.ledger.specs.Ledger.{is_same}
use Rattle.reserving.specs.Keyed.{put}
use Rattle.ledger.specs.Pricing.{validity_of, terms_at}
use Rattle.ledger.specs.Settlement.{reported, due_of}
use Rattle.ledger.specs.Reservation.{held_due}
use Rattle.reserving.specs.Sessions.{is_session, is_of, is_live_in, is_live_row}
use Rattle.reserving.specs.Sessions.{is_open, session_before, group_before}
use Rattle.reserving.specs.Changes.{is_other, lapse, lapse_group, advanced, with_session}
use Rattle.reserving.specs.Changes.{touched_session, touched_account, closed_session}
use Rattle.reserving.specs.Changes.{closed_account, ended_group, ended_rows, settled_account}
use Rattle.reserving.specs.Changes.{settled_by_rows, debited_account, reserved_account}
use Rattle.reserving.specs.Changes.{credited_account, used_in, group_or_new, price_in, granted_in}
use Rattle.reserving.specs.Results.{GivesGrantIn}
use Rattle.ledger.specs.Lists.{EachIn}
use Rattle.reserving.specs.Rows.{AccountRows}
use Rattle.reserving.specs.Calm.{IsCalm}
use Rattle.reserving.specs.Others.{other_sessions, other_groups, other_rows, AreStill}
use Rattle.reserving.specs.Others.{OthersStay}
use Rattle.ledger.proofs.Names.{is_same-refl}
use Rattle.reserving.proofs.Lists.{not_both}
use Rattle.reserving.proofs.LeftTests.{each_filter, each_passes}

-- ---- lists of which some rows are looked at

-- a row that is put, and those in whose place it comes, aren't looked at
pub filter_put : {A : Type 0} (b : A → A → Bool) (p q : A → Bool) (x : A) (xs : List A) →
    q x ≡ false → ((y : A) → p y ≡ true → q y ≡ false) → filter q (put b p x xs) ≡ filter q xs
filter_put b p q x [] n other = ap (λ t. cond t (x ∷ []) []) n
filter_put b p q x (y ∷ ys) n other =
    by_test (p y) (b x y && not (list_any p ys)) refl (filter_put b p q x ys n other)
  where
    by_test : (t u : Bool) → p y ≡ t → filter q (put b p x ys) ≡ filter q ys →
        filter q (if t then x ∷ ys else (if u then x ∷ y ∷ ys else y ∷ put b p x ys))
        ≡ filter q (y ∷ ys)
    by_test true u e rest =
        ap (λ t. cond t (x ∷ filter q ys) (filter q ys)) n
        ∙ ap (λ t. cond t (y ∷ filter q ys) (filter q ys)) (sym (other y e))
    by_test false true e rest =
        ap (λ t. cond t (x ∷ filter q (y ∷ ys)) (filter q (y ∷ ys))) n
    by_test false false e rest = ap (λ r. cond (q y) (y ∷ r) r) rest

-- a change that leaves those that are looked at
pub filter_still : {A : Type 0} (q : A → Bool) (f : A → A) → ((x : A) → q (f x) ≡ q x) →
    (xs : List A) → EachIn (λ r. f r ≡ r) (filter q xs) → filter q (map f xs) ≡ filter q xs
filter_still q f k [] h = refl
filter_still q f k (x ∷ xs) h =
    ap (λ t. cond t (f x ∷ filter q (map f xs)) (filter q (map f xs))) (k x)
    ∙ at (q x) h (filter_still q f k xs)
  where
    at : (t : Bool) → EachIn (λ r. f r ≡ r) (cond t (x ∷ filter q xs) (filter q xs)) →
        (EachIn (λ r. f r ≡ r) (filter q xs) → filter q (map f xs) ≡ filter q xs) →
        cond t (f x ∷ filter q (map f xs)) (filter q (map f xs))
        ≡ cond t (x ∷ filter q xs) (filter q xs)
    at true g rest = λ i. g.0 i ∷ rest g.1 i
    at false g rest = rest g

-- what each is of those that are looked at
pub each_of : {A : Type 0} (P Q : A → Type 0) (q : A → Bool) →
    ((x : A) → q x ≡ true → P x → Q x) → (xs : List A) → EachIn P (filter q xs) →
    EachIn Q (filter q xs)
each_of P Q q k [] h = tt
each_of P Q q k (x ∷ xs) h = at (q x) refl h (each_of P Q q k xs)
  where
    at : (t : Bool) → q x ≡ t → EachIn P (cond t (x ∷ filter q xs) (filter q xs)) →
        (EachIn P (filter q xs) → EachIn Q (filter q xs)) →
        EachIn Q (cond t (x ∷ filter q xs) (filter q xs))
    at true e g rest = (k x e g.0, rest g.1)
    at false e g rest = rest g

pub each_so : {A : Type 0} (P : A → Type 0) (q : A → Bool) → ((x : A) → q x ≡ true → P x) →
    (xs : List A) → EachIn P (filter q xs)
each_so P q k xs = each_of (λ x. q x ≡ true) P q (λ x e h. k x e) xs (each_passes q xs)

-- what is found of those that are looked at
pub find_within : {A : Type 0} (q p : A → Bool) → ((y : A) → q y ≡ true → p y ≡ true) →
    (xs : List A) → find q (filter p xs) ≡ find q xs
find_within q p k [] = refl
find_within q p k (x ∷ xs) = at (p x) (q x) refl refl (find_within q p k xs)
  where
    at : (t u : Bool) → p x ≡ t → q x ≡ u → find q (filter p xs) ≡ find q xs →
        find q (cond t (x ∷ filter p xs) (filter p xs)) ≡ cond u (Some x) (find q xs)
    at true u e g rest = λ i. cond (g i) (Some x) (rest i)
    at false true e g rest = absurd (not_both (sym e ∙ k x g))
    at false false e g rest = rest

-- ---- tests

untouched : {A : Type 0} (p : Bool) (x y : A) → not p ≡ true → (if p then y else x) ≡ x
untouched true x y e = absurd (not_both e)
untouched false x y e = refl

stays_where : {A : Type 0} (p : Bool) (x y : A) → p ≡ true → (if p then x else y) ≡ x
stays_where true x y e = refl
stays_where false x y e = absurd (not_both e)

not_of : (p q : Bool) → not p ≡ true → not (p && q) ≡ true
not_of true q e = absurd (not_both e)
not_of false q e = refl

-- the session itself is none of the others
own : (s : List ℕ) → is_other s s ≡ false
own s = ap not (is_same-refl s)

of_own : (s : List ℕ) (g : ℕ) (r : SessionGroup) → is_of s g r ≡ true → is_other s r.session ≡ false
of_own s g r e = ap not (and_parts (is_same r.session s) (r.group == g) e).0

-- ---- names stay

lapse_name : (s : List ℕ) (v : ℕ → ℕ) (t : ℕ) (r : Session) →
    is_other s (lapse v t r).id ≡ is_other s r.id
lapse_name s v t r =
    elim (is_open r.state && not (nat_lt t (r.touched + 2 * v r.touched))) as
    (λ e. is_other s (if e then record r { state = Ended } else r).id ≡ is_other s r.id)
    [ true ↦ refl | false ↦ refl ]

group_name : (s : List ℕ) (keeps : List ℕ → Bool) (r : SessionGroup) →
    is_other s (lapse_group keeps r).session ≡ is_other s r.session
group_name s keeps r =
    elim (keeps r.session) as
    (λ e. is_other s (if e then r else record r { reservation = None }).session
    ≡ is_other s r.session) [ true ↦ refl | false ↦ refl ]

touched_name : (s : List ℕ) (n t : ℕ) (r : Session) →
    is_other s (touched_session s n t r).id ≡ is_other s r.id
touched_name s n t r =
    elim (is_session s r) as
    (λ e. is_other s (if e then record r { last_number = n; touched = t; state = Open } else r).id
    ≡ is_other s r.id) [ true ↦ refl | false ↦ refl ]

closed_name : (s : List ℕ) (r : Session) → is_other s (closed_session s r).id ≡ is_other s r.id
closed_name s r =
    elim (is_session s r) as
    (λ e. is_other s (if e then record r { state = Ended } else r).id ≡ is_other s r.id)
    [ true ↦ refl | false ↦ refl ]

ended_name : (s : List ℕ) (g : ℕ) (r : SessionGroup) →
    is_other s (ended_group s g r).session ≡ is_other s r.session
ended_name s g r =
    elim (is_of s g r) as
    (λ e. is_other s (if e then record r { reservation = None } else r).session
    ≡ is_other s r.session) [ true ↦ refl | false ↦ refl ]

-- ---- time goes on

other_live : (s x : List ℕ) (v : ℕ → ℕ) (t : ℕ) (rows : List Session) → is_other s x ≡ true →
    is_live_in v t (other_sessions s rows) x ≡ is_live_in v t rows x
other_live s x v t rows other =
    ap (is_live_row v t)
    (find_within (is_session x) (λ r. is_other s r.id)
    (λ y e. ap (is_other s) (equal_names y.id x e) ∙ other) rows)

kept_group : (keeps : List ℕ → Bool) (r : SessionGroup) →
    (keeps r.session ≡ false → r.reservation ≡ None) → lapse_group keeps r ≡ r
kept_group keeps r h = at (keeps r.session) h
  where
    at : (t : Bool) → (t ≡ false → r.reservation ≡ None) →
        (if t then r else record r { reservation = None }) ≡ r
    at true k = refl
    at false k = λ i. record r { reservation = sym (k refl) i }

-- rule: database-writes.quiet-at
pub others_advanced : (s : List ℕ) (t : ℕ) (a : AccountRows) → AreStill t (other_rows s a) →
    other_rows s (advanced t a) ≡ other_rows s a
others_advanced s t a h = λ i. record {
  shelf = a.shelf;
  sessions = sessions i;
  groups = groups i;
}
  where
    sessions : other_sessions s (map (lapse (validity_of a.shelf) t) a.sessions)
        ≡ other_sessions s a.sessions
    sessions =
        filter_still (λ r. is_other s r.id) (lapse (validity_of a.shelf) t)
        (lapse_name s (validity_of a.shelf) t) a.sessions h.sessions

    groups : other_groups s
        (map (lapse_group (is_live_in (validity_of a.shelf) t a.sessions)) a.groups)
        ≡ other_groups s a.groups
    groups =
        filter_still (λ r. is_other s r.session)
        (lapse_group (is_live_in (validity_of a.shelf) t a.sessions))
        (group_name s (is_live_in (validity_of a.shelf) t a.sessions)) a.groups
        (each_of
        (λ r. is_live_in (validity_of a.shelf) t (other_sessions s a.sessions) r.session ≡ false →
        r.reservation ≡ None)
        (λ r. lapse_group (is_live_in (validity_of a.shelf) t a.sessions) r ≡ r)
        (λ r. is_other s r.session)
        (λ r e k. kept_group (is_live_in (validity_of a.shelf) t a.sessions) r
        (λ f. k (other_live s r.session (validity_of a.shelf) t a.sessions e ∙ f)))
        a.groups h.groups)

-- an account of which nothing ends at a moment
pub still : (s : List ℕ) (t : ℕ) (a : AccountRows) → IsCalm (record a { as_of = t }) →
    AreStill t (other_rows s a)
still s t a h = record {
  sessions = each_filter (λ r. lapse (validity_of a.shelf) t r ≡ r) (λ r. is_other s r.id)
      a.sessions h.sessions;
  groups = each_of
      (λ r. is_live_in (validity_of a.shelf) t a.sessions r.session ≡ false → r.reservation ≡ None)
      (λ r. is_live_in (validity_of a.shelf) t (other_sessions s a.sessions) r.session ≡ false →
      r.reservation ≡ None) (λ r. is_other s r.session)
      (λ r e k f. k (sym (other_live s r.session (validity_of a.shelf) t a.sessions e) ∙ f))
      a.groups
      (each_filter (λ r. is_live_in (validity_of a.shelf) t a.sessions r.session ≡ false →
      r.reservation ≡ None) (λ r. is_other s r.session) a.groups h.groups);
}

-- ---- what each call makes of the rows

abbrev pub IsOfOwn : List ℕ → (AccountRows → AccountRows) → Type 0
IsOfOwn s f = (a : AccountRows) → other_rows s (f a) ≡ other_rows s a

pub own_session : (s : List ℕ) (n t : ℕ) (state : SessionState) →
    IsOfOwn s (with_session s n t state)
own_session s n t state = λ a. λ i. record {
  shelf = a.shelf;
  sessions = filter_put session_before (is_session s) (λ (r : Session). is_other s r.id)
      (record { id = s; last_number = n; touched = t; state = state }) a.sessions (own s)
      (λ y e. ap not e) i;
  groups = other_groups s a.groups;
}

pub own_touched : (s : List ℕ) (n : ℕ) → IsOfOwn s (touched_account s n)
own_touched s n = λ a. λ i. record {
  shelf = a.shelf;
  sessions = filter_still (λ r. is_other s r.id) (touched_session s n a.as_of)
      (touched_name s n a.as_of) a.sessions
      (each_so (λ r. touched_session s n a.as_of r ≡ r) (λ r. is_other s r.id)
      (λ r e. untouched (is_session s r) r _ e) a.sessions) i;
  groups = other_groups s a.groups;
}

pub own_closed : (s : List ℕ) → IsOfOwn s (closed_account s)
own_closed s = λ a. λ i. record {
  shelf = a.shelf;
  sessions = filter_still (λ r. is_other s r.id) (closed_session s) (closed_name s) a.sessions
      (each_so (λ r. closed_session s r ≡ r) (λ r. is_other s r.id)
      (λ r e. untouched (is_session s r) r _ e) a.sessions) i;
  groups = filter_still (λ r. is_other s r.session) (lapse_group (is_other s))
      (group_name s (is_other s)) a.groups
      (each_so (λ r. lapse_group (is_other s) r ≡ r) (λ r. is_other s r.session)
      (λ r e. stays_where (is_other s r.session) r _ e) a.groups) i;
}

pub own_ended : (s : List ℕ) (g : ℕ) → IsOfOwn s (ended_rows s g)
own_ended s g = λ a. λ i. record {
  shelf = a.shelf;
  sessions = other_sessions s a.sessions;
  groups = filter_still (λ r. is_other s r.session) (ended_group s g) (ended_name s g) a.groups
      (each_so (λ r. ended_group s g r ≡ r) (λ r. is_other s r.session)
      (λ r e. untouched (is_of s g r) r _ (not_of (is_same r.session s) (r.group == g) e))
      a.groups) i;
}

-- a row of the session's group that is put
put_group : (s : List ℕ) (g : ℕ) (x : SessionGroup) (rows : List SessionGroup) → x.session ≡ s →
    other_groups s (put group_before (is_of s g) x rows) ≡ other_groups s rows
put_group s g x rows named =
    filter_put group_before (is_of s g) (λ r. is_other s r.session) x rows
    (ap (is_other s) named ∙ own s) (of_own s g)

pub own_settled : (s : List ℕ) (g units blocks : ℕ) (due : Due) →
    IsOfOwn s (settled_account s g units blocks due)
own_settled s g units blocks due = λ a. λ i. record {
  shelf = a.shelf;
  sessions = other_sessions s a.sessions;
  groups = put_group s g
      (record { session = s; group = g; used = used_in s g a.groups + units; reservation = None })
      a.groups refl i;
}

pub own_settlement : (s : List ℕ) (g : ℕ) (used_parts : List UsedPart) →
    IsOfOwn s (settled_by_rows s g used_parts)
own_settlement s g [] = own_ended s g
own_settlement s g (p ∷ ps) = λ a.
    own_settled s g (reported (p ∷ ps)) (price_in s g a.as_of (p ∷ ps) a).blocks
    (due_of (price_in s g a.as_of (p ∷ ps) a)) a

pub own_debited : (s : List ℕ) (g units blocks : ℕ) (due : Due) →
    IsOfOwn s (debited_account s g units blocks due)
own_debited s g units blocks due = λ a. λ i. record {
  shelf = a.shelf;
  sessions = other_sessions s a.sessions;
  groups = put_group s g
      (record {
        session = s;
        group = g;
        used = used_in s g a.groups + units;
        reservation = (group_or_new s g a.groups).reservation;
      })
      a.groups refl i;
}

pub own_reserved : (s : List ℕ) (g : ℕ) (due : Due) → IsOfOwn s (reserved_account s g due)
own_reserved s g due = λ a. λ i. record {
  shelf = a.shelf;
  sessions = other_sessions s a.sessions;
  groups = put_group s g
      (record {
        session = s;
        group = g;
        used = used_in s g a.groups;
        reservation = Some (record {
          terms = terms_at a.shelf a.as_of;
          holds = holds_of g a.as_of due a.buckets;
        });
      })
      a.groups refl i;
}

-- ---- one call after another

-- rule: database-writes.quiet-at
pub stays_chain : (s : List ℕ) (t : ℕ) (x y z : AccountRows) → OthersStay s t x y →
    OthersStay s t y z → OthersStay s t x z
stays_chain s t x y z first next =
    λ h. next (subst (AreStill t) (sym (first h)) h) ∙ first h

-- a call that first brings the account to the moment
pub stays_after : (s : List ℕ) (t : ℕ) (x y : AccountRows) (f : AccountRows → AccountRows) →
    IsOfOwn s f → y ≡ f (advanced t x) → OthersStay s t x y
stays_after s t x y f same is =
    λ h. ap (other_rows s) is ∙ same (advanced t x) ∙ others_advanced s t x h

-- a call that brings the account to the moment at its end
pub stays_before : (s : List ℕ) (t : ℕ) (x y : AccountRows) (f : AccountRows → AccountRows) →
    IsOfOwn s f → y ≡ advanced t (f x) → OthersStay s t x y
stays_before s t x y f same is =
    λ h. ap (other_rows s) is
    ∙ others_advanced s t (f x) (subst (AreStill t) (sym (same x)) h) ∙ same x

-- ---- each call

pub stays_settled : (s : List ℕ) (g t : ℕ) (used_parts : List UsedPart) (x y : AccountRows) →
    y ≡ settled_by_rows s g used_parts (advanced t x) → OthersStay s t x y
stays_settled s g t used_parts x y is =
    stays_after s t x y (settled_by_rows s g used_parts) (own_settlement s g used_parts) is

pub stays_touched : (s : List ℕ) (n t : ℕ) (x y : AccountRows) →
    y ≡ touched_account s n (advanced t x) → OthersStay s t x y
stays_touched s n t x y is = stays_after s t x y (touched_account s n) (own_touched s n) is

pub stays_closed : (s : List ℕ) (t : ℕ) (x y : AccountRows) →
    y ≡ closed_account s (advanced t x) → OthersStay s t x y
stays_closed s t x y is = stays_after s t x y (closed_account s) (own_closed s) is

pub stays_debited : (s : List ℕ) (g units blocks t : ℕ) (due : Due) (x y : AccountRows) →
    y ≡ debited_account s g units blocks due (advanced t x) → OthersStay s t x y
stays_debited s g units blocks t due x y is =
    stays_after s t x y (debited_account s g units blocks due) (own_debited s g units blocks due) is

pub stays_recorded : (s : List ℕ) (n t : ℕ) (state : SessionState) (x y : AccountRows) →
    y ≡ advanced t (with_session s n t state x) → OthersStay s t x y
stays_recorded s n t state x y is =
    stays_before s t x y (with_session s n t state) (own_session s n t state) is

-- a credit touches no session
pub stays_credited : (s : List ℕ) (kind : BucketKind) (from until : ℕ) (scope : Option ℕ)
    (amount t : ℕ) (x y : AccountRows) →
    y ≡ advanced t (credited_account kind from until scope amount x) → OthersStay s t x y
stays_credited s kind from until scope amount t x y is =
    stays_before s t x y (credited_account kind from until scope amount) (λ a. refl) is

pub stays_granted : (s : List ℕ) (g t : ℕ) (requested : Option ℕ) (x y : AccountRows)
    (granted : Granted) → GivesGrantIn s g t requested x y granted → OthersStay s t x y
stays_granted s g t requested x y Nothing h =
    λ k. ap (other_rows s) h.1 ∙ others_advanced s t x k
stays_granted s g t requested x y (Units units switch validity fewer) h =
    stays_after s t x y (reserved_account s g (held_due (granted_in s g t requested x)))
    (own_reserved s g (held_due (granted_in s g t requested x))) h.rows
