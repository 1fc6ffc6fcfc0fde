-- Rows that are put one after another, as one change over what was there.
use Rattle.std.proofs.Common.{◌≡◌, ℕ, Bool, true, false, cond, List, [], ◌∷◌, refl, sym, ap, subst}
use Rattle.std.proofs.Common.{◌∙◌, true≢false, Option, Some}
use Rattle.std.specs.Prelude.{if◌then◌else◌, ◌+◌, nat_eq, is_some}
use Rattle.std.specs.List.{find}
use Rattle.identifiers.specs.Texts.{same_name}
use Rattle.ledger.specs.declared.charge.ChargeRow.{ChargeRow}
use Rattle.reserving.specs.declared.session.Session.{Session}
use Rattle.reserving.specs.declared.session.Counter.{Counter}
use Rattle.reserving.specs.Sessions.{is_session, session_in, is_counter, counter_in}
use Rattle.ledger.specs.Lists.{EachIn}
use Rattle.reserving.specs.Rows.{AreApart}
use Rattle.reserving.specs.Left.{first_of}
pub use Rattle.ledger.proofs.Holds.{same_from as name_from}
pub use Rattle.ledger.proofs.Names.{number_same as number_itself}
pub use Rattle.reserving.proofs.Keys.{same_number as number_from}
use Rattle.reserving.proofs.LeftParted.{one_session, one_counter}
use Rattle.reserving.proofs.LeftTests.{none_more}
use Rattle.keepers.specs.Keyed.{same_session, same_counter}
use Rattle.sql_rows.specs.Content.{TableRows, TablesContent, with_rows, with_counter_row}
use Rattle.sql_rows.specs.Content.{with_session_row}
use Rattle.sql_rows.specs.Each.{with_counters, with_sessions}

-- ---- a name and a number that two rows share

pub not_both : {X : Type 0} → true ≡ false → X
not_both e = absurd (true≢false e)

-- ---- one row over those after it

module _ {X : Type 0} (same : X → X → Bool) (is : X → Bool)
    (one : (x y : X) → is x ≡ true → is y ≡ true → same x y ≡ true) where
  pub one_over : (x : X) (xs : List X) (r : Option X) → EachIn (λ y. same x y ≡ false) xs →
      first_of (find is xs) (if is x then Some x else r) ≡ first_of (find is (x ∷ xs)) r
  one_over x xs r h = at (is x) refl
    where
      at : (t : Bool) → is x ≡ t → first_of (find is xs) (if t then Some x else r)
          ≡ first_of (cond t (Some x) (find is xs)) r
      at true e = ap (λ o. first_of o (Some x)) (none_more same is one x xs e h)
      at false e = refl

-- ---- an account's rows change, and no other's

pub chosen_twice : (p : Bool) (r : TableRows) (f g : TableRows → TableRows) →
    (if p then f (if p then g r else r) else (if p then g r else r)) ≡ (if p then f (g r) else r)
chosen_twice true r f g = refl
chosen_twice false r f g = refl

chosen_none : (p : Bool) (r : TableRows) → r ≡ (if p then r else r)
chosen_none true r = refl
chosen_none false r = refl

-- two changes of one account are one
pub with_twice : (a : List ℕ) (f g : TableRows → TableRows) (c : TablesContent) →
    with_rows a f (with_rows a g c) ≡ with_rows a (λ r. f (g r)) c
with_twice a f g c = λ i. record c { rows = λ x. chosen_twice (same_name a x) (c.rows x) f g i }

pub with_none : (a : List ℕ) (c : TablesContent) → c ≡ with_rows a (λ r. r) c
with_none a c = λ i. record c { rows = λ x. chosen_none (same_name a x) (c.rows x) i }

-- an account is opened, unless it is there, and its rows change
abbrev pub opened : List ℕ → (TableRows → TableRows) → TablesContent → TablesContent
opened a f c = record c {
  rows = λ x. if same_name a x then f (c.rows x) else c.rows x;
  count = if is_some (c.rows a).head then c.count else c.count + 1;
}

pub with_opened : (a : List ℕ) (f g : TableRows → TableRows) (c : TablesContent) →
    with_rows a f (opened a g c) ≡ opened a (λ r. f (g r)) c
with_opened a f g c =
    λ i. record (opened a g c) { rows = λ x. chosen_twice (same_name a x) (c.rows x) f g i }

pub opened_same : (a : List ℕ) (f g : TableRows → TableRows) (c : TablesContent) →
    f (c.rows a) ≡ g (c.rows a) →
    opened a f c ≡ opened a g c
opened_same a f g c same = λ i. record (opened a f c) {
  rows = λ x. at x (same_name a x) refl i;
}
  where
    at : (x : List ℕ) (t : Bool) → same_name a x ≡ t →
        (if t then f (c.rows x) else c.rows x) ≡ (if t then g (c.rows x) else c.rows x)
    at x true e = subst (λ y. f (c.rows y) ≡ g (c.rows y)) (name_from a x e) same
    at x false e = refl

-- ---- a list of rows

unfoldable pub each : {X : Type 0} → List ℕ → (X → TableRows → TableRows) → List X → TablesContent →
    TablesContent
each a f [] c = c
each a f (x ∷ xs) c = each a f xs (with_rows a (f x) c)

module _ {X : Type 0} (a : List ℕ) (same : X → X → Bool) (f : X → TableRows → TableRows)
    (over : List X → TableRows → TableRows) (none : (r : TableRows) → over [] r ≡ r)
    (step : (x : X) (xs : List X) (r : TableRows) → EachIn (λ y. same x y ≡ false) xs →
    over xs (f x r) ≡ over (x ∷ xs) r) where
  pub each_over : (xs : List X) (c : TablesContent) → AreApart same xs →
      each a f xs c ≡ with_rows a (over xs) c
  unfolding each
  each_over [] c h = with_none a c ∙ (λ i. with_rows a (λ r. sym (none r) i) c)
  each_over (x ∷ xs) c h =
      each_over xs (with_rows a (f x) c) h.1
      ∙ with_twice a (over xs) (f x) c
      ∙ (λ i. with_rows a (λ r. step x xs r h.0 i) c)

abbrev pub over_counters : List Counter → TableRows → TableRows
over_counters xs r = record r { counters = λ g c. first_of (counter_in g c xs) (r.counters g c) }

abbrev pub over_sessions : List Session → TableRows → TableRows
over_sessions xs r = record r { sessions = λ s. first_of (session_in s xs) (r.sessions s) }

counters_each : (a : List ℕ) (xs : List Counter) (c : TablesContent) →
    with_counters a xs c ≡ each a with_counter_row xs c
unfolding each
counters_each a [] c = refl
counters_each a (x ∷ xs) c = counters_each a xs (with_rows a (with_counter_row x) c)

sessions_each : (a : List ℕ) (xs : List Session) (c : TablesContent) →
    with_sessions a xs c ≡ each a with_session_row xs c
unfolding each
sessions_each a [] c = refl
sessions_each a (x ∷ xs) c = sessions_each a xs (with_rows a (with_session_row x) c)

pub counters_over : (a : List ℕ) (xs : List Counter) (c : TablesContent) →
    AreApart same_counter xs →
    with_counters a xs c ≡ with_rows a (over_counters xs) c
counters_over a xs c h =
    counters_each a xs c
    ∙ each_over a same_counter with_counter_row over_counters (λ r. refl)
    (λ x xs r apart i. record r {
      counters = λ g k.
          one_over same_counter (is_counter g k) (one_counter g k) x xs (r.counters g k) apart i;
    }) xs c h

pub sessions_over : (a : List ℕ) (xs : List Session) (c : TablesContent) →
    AreApart same_session xs →
    with_sessions a xs c ≡ with_rows a (over_sessions xs) c
sessions_over a xs c h =
    sessions_each a xs c
    ∙ each_over a same_session with_session_row over_sessions (λ r. refl)
    (λ x xs r apart i. record r {
      sessions = λ s.
          one_over same_session (is_session s) (one_session s) x xs (r.sessions s) apart i;
    }) xs c h

-- no two charges have one number
abbrev pub same_charge : ChargeRow → ChargeRow → Bool
same_charge x y = nat_eq y.number x.number

pub one_charge : (n : ℕ) (x y : ChargeRow) → nat_eq x.number n ≡ true → nat_eq y.number n ≡ true →
    nat_eq y.number x.number ≡ true
one_charge n x y p q = ap (nat_eq y.number) (number_from x.number n p) ∙ q
