-- The rows of one session stand apart and in the order of their keys, as all do.
use Rattle.std.proofs.Common.{◌≡◌, ℕ, Bool, true, false, cond, List, [], ◌∷◌, refl, sym, ap, ◌∙◌}
use Rattle.std.proofs.Common.{Option, Some, None}
use Rattle.std.specs.Prelude.{filter}
use Rattle.ledger.specs.Ledger.{is_same}
use Rattle.ledger.specs.Lists.{EachIn}
use Rattle.reserving.specs.declared.session.Session.{Session}
use Rattle.reserving.specs.Earlier.{AreEarlier, rows_in, own_stored}
use Rattle.reserving.specs.Others.{own_sessions}
use Rattle.reserving.specs.Placed.{IsPriced}
use Rattle.reserving.specs.Rows.{AccountRows, AreApart, AreAscending}
use Rattle.reserving.specs.Sessions.{is_session, is_of, session_in, session_before, group_before}
use Rattle.reserving.specs.Stored.{StoredRows, stored}
use Rattle.reserving.proofs.LeftTests.{each_filter, apart_filter}
use Rattle.identifiers.proofs.Equality.{equal_names}

pub ascending_filter : {A : Type 0} (before : A → A → Bool) (p : A → Bool) (xs : List A) →
    AreAscending before xs → AreAscending before (filter p xs)
ascending_filter before p [] h = tt
ascending_filter before p (x ∷ xs) h =
    elim (p x) as (λ t. AreAscending before (cond t (x ∷ filter p xs) (filter p xs))) [
      | true ↦ (each_filter (λ y. before x y ≡ true) p xs h.0, ascending_filter before p xs h.1)
      | false ↦ ascending_filter before p xs h.1
    ]

-- ---- what is kept

pub account_earlier : (a : AccountRows) → IsPriced a → AreEarlier (stored a)
account_earlier a h = record {
  sound = h.account.sound;
  sessions = h.account.sessions;
  groups = h.account.groups;
  counters = h.account.counters;
  keys = h.order;
}

pub own_earlier : (s : List ℕ) (w : StoredRows) → AreEarlier w → AreEarlier (own_stored s w)
own_earlier s w h = record {
  sound = h.sound;
  sessions = apart_filter (λ x y. is_session x.id y) (is_session s) w.sessions h.sessions;
  groups = apart_filter (λ x y. is_of x.session x.group y) (λ r. is_same r.session s) w.groups
      h.groups;
  counters = h.counters;
  keys = record {
    by_name = ascending_filter session_before (is_session s) w.sessions h.keys.by_name;
    by_group = ascending_filter group_before (λ r. is_same r.session s) w.groups h.keys.by_group;
    by_cycle = h.keys.by_cycle;
  };
}

-- ---- one row at most is a session's

-- where no two sessions have one name
pub own_row : (s : List ℕ) (rows : List Session) → AreApart (λ x y. is_session x.id y) rows →
    own_sessions s rows ≡ rows_in (session_in s rows)
own_row s [] h = refl
own_row s (x ∷ xs) h = at (is_session s x) refl (own_row s xs h.1)
  where
    none : (ys : List Session) → EachIn (λ y. is_session x.id y ≡ false) ys →
        is_session s x ≡ true → own_sessions s ys ≡ []
    none [] g e = refl
    none (y ∷ ys) g e =
        ap (λ t. cond t (y ∷ own_sessions s ys) (own_sessions s ys))
        (ap (is_same y.id) (sym (equal_names x.id s e)) ∙ g.0)
        ∙ none ys g.1 e

    at : (t : Bool) → is_session s x ≡ t → own_sessions s xs ≡ rows_in (session_in s xs) →
        cond t (x ∷ own_sessions s xs) (own_sessions s xs)
        ≡ rows_in (cond t (Some x) (session_in s xs))
    at true e rest = ap (λ l. x ∷ l) (none xs h.0 e)
    at false e rest = rest
