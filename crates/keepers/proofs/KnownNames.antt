-- Whether a session has a row, by what is live, and by the names of those that were left.
use Rattle.std.proofs.Common.{◌≡◌, Bool, true, false, cond, List, ◌++◌, refl, sym, ap, ◌∙◌, Option}
use Rattle.std.proofs.Common.{Some, None, ℕ}
use Rattle.std.specs.Prelude.{is_some}
use Rattle.identifiers.specs.Texts.{same_name}
use Rattle.reserving.specs.declared.session.Session.{Session}
use Rattle.reserving.specs.Sessions.{is_open, is_session, session_in}
use Rattle.reserving.specs.Left.{first_of}
use Rattle.ledger.specs.Lists.{EachIn}
use Rattle.reserving.proofs.Lists.{not_both, find-passes, EachIn-found}
use Rattle.ledger.proofs.Holds.{same_from}
use Rattle.reserving.proofs.LeftParted.{find_both}
use Rattle.keepers.specs.Named.{Names, is_named, AreLeftSessions}

some_behind : {A : Type 0} (l x : Option A) → is_some x ≡ true → true ≡ is_some (first_of l x)
some_behind None x e = sym e
some_behind (Some y) x e = refl

none_behind : {A : Type 0} (l x : Option A) → is_some x ≡ false → is_some l ≡ is_some (first_of l x)
none_behind None x e = sym e
none_behind (Some y) x e = refl

pub known_live : (s : List ℕ) (left live : List Session) → is_some (session_in s live) ≡ true →
    true ≡ is_some (session_in s (left ++ live))
known_live s left live e = some_behind (session_in s left) (session_in s live) e
    ∙ ap is_some (sym (find_both (is_session s) left live))

pub known_left : (s : List ℕ) (left live : List Session) → is_some (session_in s live) ≡ false →
    is_some (session_in s left) ≡ is_some (session_in s (left ++ live))
known_left s left live e = none_behind (session_in s left) (session_in s live) e
    ∙ ap is_some (sym (find_both (is_session s) left live))

-- a name that isn't kept has no row among those that were left
unnamed : (names : Names) (s : List ℕ) (left : List Session) → AreLeftSessions names left →
    is_named names s ≡ false → is_some (session_in s left) ≡ false
unnamed names s left h e = at (session_in s left) refl
  where
    at : (o : Option Session) → session_in s left ≡ o → is_some o ≡ false
    at None f = refl
    at (Some r) f =
        let known = (EachIn-found (λ r. (is_open r.state ≡ false) × (is_named names r.id ≡ true))
        (is_session s) left r h f).1 in
        absurd
        (not_both (sym e ∙ ap (is_named names)
        (sym (same_from r.id s (find-passes (is_session s) left r f))) ∙ known))

pub known_none : (names : Names) (s : List ℕ) (left live : List Session) →
    AreLeftSessions names left → is_named names s ≡ false → is_some (session_in s live) ≡ false →
    false ≡ is_some (session_in s (left ++ live))
known_none names s left live h e f = sym (unnamed names s left h e) ∙ known_left s left live f

-- the names of these sessions are kept: that of a row among them is
pub named_among : (names : Names) (s : List ℕ) (rows : List Session) →
    EachIn (λ (r : Session). is_named names r.id ≡ true) rows →
    is_some (session_in s rows) ≡ true → is_named names s ≡ true
named_among names s rows h e = at (session_in s rows) refl
  where
    at : (o : Option Session) → session_in s rows ≡ o → is_named names s ≡ true
    at None f = absurd (not_both (sym (ap is_some f) ∙ e))
    at (Some r) f = ap (is_named names)
        (sym (same_from r.id s (find-passes (is_session s) rows r f)))
        ∙ EachIn-found (λ (r : Session). is_named names r.id ≡ true) (is_session s) rows r h f

-- a name that was kept stays so
pub named_on : (was is : Names) (name : List ℕ) →
    ((q : List ℕ) → is_named is q ≡ cond (same_name name q) true (is_named was q)) →
    (s : List ℕ) → is_named was s ≡ true → is_named is s ≡ true
named_on was is name updates s e = updates s ∙ at (same_name name s)
  where
    at : (t : Bool) → cond t true (is_named was s) ≡ true
    at true = refl
    at false = e
