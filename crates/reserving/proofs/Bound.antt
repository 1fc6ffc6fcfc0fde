-- Reservations are of open sessions: of the rows that are loaded, and of rows that are written over
-- others.
use Rattle.std.proofs.Common.{◌≡◌, Bool, true, false, cond, List, [], ◌∷◌, Option, Some, None, refl}
use Rattle.std.proofs.Common.{ℕ, sym, ap, ◌∙◌}
use Rattle.std.specs.Prelude.{not, ◌&&◌, ◌||◌, is_some, filter}
use Rattle.std.specs.List.{find, list_all}
use Rattle.std.proofs.lemmas.Bool.{and_parts, and_from}
use Rattle.identifiers.proofs.Equality.{equal_names}
use Rattle.reserving.specs.declared.session.Session.{Session}
use Rattle.reserving.specs.declared.session.SessionGroup.{SessionGroup}
use Rattle.reserving.specs.Sessions.{is_open, is_session, session_in, is_of}
use Rattle.reserving.specs.Sessions.{group_before}
use Rattle.reserving.specs.Left.{first_of, is_open_row}
use Rattle.ledger.specs.Lists.{EachIn}
use Rattle.reserving.specs.Rows.{AreApart}
use Rattle.reserving.specs.Stored.{StoredRows}
use Rattle.reserving.specs.Live.{is_live_group}
use Rattle.reserving.specs.Restored.{are_keys_ascending}
use Rattle.reserving.specs.Written.{sessions_written, groups_written}
use Rattle.reserving.specs.Calm.{is_group_quiet, are_groups_quiet, is_opened}
use Rattle.reserving.proofs.Lists.{not_both, some_of, find-passes, EachIn-found, EachIn-weaker}
use Rattle.reserving.proofs.LeftTests.{each_filter}
use Rattle.reserving.proofs.Restored.{all_told}
use Rattle.reserving.proofs.WrittenOver.{session_found, EachIn-written, sessions_ascend}

abbrev pub IsBound : StoredRows → Type 0
IsBound w = are_groups_quiet w.sessions w.groups ≡ true

all_so : {A : Type 0} (test : A → Bool) (xs : List A) → EachIn (λ x. test x ≡ true) xs →
    list_all test xs ≡ true
all_so test [] h = refl
all_so test (x ∷ xs) h = and_from (test x) (list_all test xs) h.0 (all_so test xs h.1)

each_so : {A : Type 0} (test : A → Bool) (xs : List A) → list_all test xs ≡ true →
    EachIn (λ x. test x ≡ true) xs
each_so test xs e = all_told test (λ x. test x ≡ true) (λ x h. h) xs e

-- a group's reservation, where its session is as open among other rows
still_open : (r : SessionGroup) (xs ys : List Session) →
    (is_open_row (session_in r.session xs) ≡ true → is_open_row (session_in r.session ys) ≡ true) →
    is_group_quiet xs r ≡ true → is_group_quiet ys r ≡ true
still_open r xs ys k = at (is_some r.reservation)
  where
    at : (t : Bool) → (not t || is_open_row (session_in r.session xs)) ≡ true →
        (not t || is_open_row (session_in r.session ys)) ≡ true
    at true e = k e
    at false e = refl

-- ---- rows that are loaded

found_filtered : {A : Type 0} (q p : A → Bool) (xs : List A) (x : A) → find q xs ≡ Some x →
    p x ≡ true → find q (filter p xs) ≡ Some x
found_filtered q p [] x e h = e
found_filtered q p (y ∷ ys) x e h = at (q y) (p y) refl refl e (λ k. found_filtered q p ys x k h)
  where
    at : (t u : Bool) → q y ≡ t → p y ≡ u → cond t (Some y) (find q ys) ≡ Some x →
        (find q ys ≡ Some x → find q (filter p ys) ≡ Some x) →
        find q (cond u (y ∷ filter p ys) (filter p ys)) ≡ Some x
    at true true f g k rest = ap (λ t. cond t (Some y) (find q (filter p ys))) f ∙ k
    at true false f g k rest =
        absurd (not_both (sym g ∙ ap p (some_of y x k) ∙ h))
    at false true f g k rest = ap (λ t. cond t (Some y) (find q (filter p ys))) f ∙ rest k
    at false false f g k rest = rest k

open_loaded : (o : Option Session) (s : List ℕ) (rows : List Session) → session_in s rows ≡ o →
    is_open_row o ≡ true → is_open_row (session_in s (filter (λ x. is_open x.state) rows)) ≡ true
open_loaded None s rows e h = absurd (not_both h)
open_loaded (Some x) s rows e h =
    ap is_open_row (found_filtered (is_session s) (λ y. is_open y.state) rows x e h) ∙ h

pub bound_live : (sessions : List Session) (groups : List SessionGroup) →
    are_groups_quiet sessions groups ≡ true →
    are_groups_quiet (filter (λ x. is_open x.state) sessions)
    (filter (is_live_group sessions) groups) ≡ true
bound_live sessions groups e =
    all_so (is_group_quiet (filter (λ x. is_open x.state) sessions))
    (filter (is_live_group sessions) groups)
    (each_filter (λ r. is_group_quiet (filter (λ x. is_open x.state) sessions) r ≡ true)
    (is_live_group sessions) groups
    (EachIn-weaker (λ r. is_group_quiet sessions r ≡ true)
    (λ r. is_group_quiet (filter (λ x. is_open x.state) sessions) r ≡ true) groups
    (λ r h. still_open r sessions (filter (λ x. is_open x.state) sessions)
    (λ k. open_loaded (session_in r.session sessions) r.session sessions refl k) h)
    (each_so (is_group_quiet sessions) groups e)))

-- ---- rows that are written over others

first_open : (o p : Option Session) → is_open_row o ≡ true → is_open_row (first_of o p) ≡ true
first_open None p h = absurd (not_both h)
first_open (Some x) p h = h

-- a session that was open is, once rows are written of which each is open or new
later_open : (named rows : List Session) (s : List ℕ) (o : Option Session) →
    EachIn (λ x. is_opened rows x ≡ true) named → session_in s named ≡ o →
    is_open_row (session_in s rows) ≡ true →
    is_open_row (first_of o (session_in s rows)) ≡ true
later_open named rows s None each e h = h
later_open named rows s (Some x) each e h =
    opened (is_open x.state) refl
    (EachIn-found (λ y. is_opened rows y ≡ true) (is_session s) named x each e)
  where
    name : x.id ≡ s
    name = equal_names x.id s (find-passes (is_session s) named x e)

    there : (p : Option Session) → is_open_row p ≡ true → is_some p ≡ true
    there None k = absurd (not_both k)
    there (Some y) k = refl

    known : is_some (session_in x.id rows) ≡ true
    known = ap (λ n. is_some (session_in n rows)) name ∙ there (session_in s rows) h

    opened : (t : Bool) → is_open x.state ≡ t →
        (t || not (is_some (session_in x.id rows))) ≡ true → t ≡ true
    opened true f k = refl
    opened false f k = absurd (not_both (sym (ap not known) ∙ k))

pub bound_written : (w v : StoredRows) → are_keys_ascending w ≡ true →
    (list_all (is_opened v.sessions) w.sessions && are_groups_quiet w.sessions w.groups) ≡ true →
    are_groups_quiet v.sessions v.groups ≡ true →
    are_groups_quiet (sessions_written w.sessions v.sessions) (groups_written w.groups v.groups)
    ≡ true
bound_written w v keys fits bound =
    let parts = and_parts (list_all (is_opened v.sessions) w.sessions)
    (are_groups_quiet w.sessions w.groups) fits in
    let apart : AreApart (λ x y. is_session x.id y) w.sessions = sessions_ascend w keys in
    let after : List Session = sessions_written w.sessions v.sessions in
    let opened : EachIn (λ x. is_opened v.sessions x ≡ true) w.sessions =
    each_so (is_opened v.sessions) w.sessions parts.0 in
    all_so (is_group_quiet after) (groups_written w.groups v.groups)
    (EachIn-written (λ r. is_group_quiet after r ≡ true) group_before
    (λ x y. is_of x.session x.group y) w.groups v.groups
    (EachIn-weaker (λ r. is_group_quiet w.sessions r ≡ true)
    (λ r. is_group_quiet after r ≡ true) w.groups
    (λ r h. still_open r w.sessions after
    (λ k. ap is_open_row (session_found r.session w.sessions v.sessions apart)
    ∙ first_open (session_in r.session w.sessions) (session_in r.session v.sessions) k) h)
    (each_so (is_group_quiet w.sessions) w.groups parts.1))
    (EachIn-weaker (λ r. is_group_quiet v.sessions r ≡ true)
    (λ r. is_group_quiet after r ≡ true) v.groups
    (λ r h. still_open r v.sessions after
    (λ k. ap is_open_row (session_found r.session w.sessions v.sessions apart)
    ∙ later_open w.sessions v.sessions r.session (session_in r.session w.sessions) opened refl k)
    h)
    (each_so (is_group_quiet v.sessions) v.groups bound)))
