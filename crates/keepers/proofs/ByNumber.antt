-- Rows that are shown in the order of their numbers, of each number the first.
use Rattle.std.proofs.Common.{◌≡◌, ℕ, ◌+◌, ◌<◌, ◌≤◌, Bool, true, false, cond, List, [], ◌∷◌, ◌++◌}
use Rattle.std.proofs.Common.{Some, None, refl, sym, ap, ◌∙◌, subst, arith, nat_lt}
use Rattle.std.specs.Prelude.{◌==◌, ◌&&◌, nat_le, Option, is_some}
use Rattle.std.specs.List.{filter}
use Rattle.std.proofs.lemmas.Bool.Decides.{nat_tests}
use Rattle.std.proofs.lemmas.List.Elements.{filter-append}
use Rattle.std.proofs.lemmas.Option.{none-some}
use Rattle.ledger.specs.ChargeColumns.{ChargeColumns}
use Rattle.keepers.specs.Tables.{charge_in}
use Rattle.keepers.specs.Rows.{are_rising, is_between, AreCharges}
use Rattle.keepers.specs.Numbers.{nearer, next_number, one_or_none}
use Rattle.keepers.specs.Visits.{Shows, SeesCharges}
use Rattle.keepers.proofs.Unique.{rising_parts, absent, first_is}
use Rattle.keepers.proofs.ShownRows.{shown_visits, shows_then, shows_stopped}

-- ---- the next number

abbrev AtMost : Option ℕ → ℕ → Type 0
AtMost None m = ⊥
AtMost (Some n) m = n ≤ m

abbrev IsFrom : ℕ → Option ℕ → Type 0
IsFrom least None = Unit {0}
IsFrom least (Some n) = least ≤ n

nearer_most : (least n m : ℕ) (found : Option ℕ) → AtMost found m → AtMost (nearer least n found) m
nearer_most least n m None h = absurd h
nearer_most least n m (Some k) h = at (nat_le least n) (nat_lt n k) refl
  where
    at : (t u : Bool) → nat_lt n k ≡ u → AtMost (cond (t && u) (Some n) (Some k)) m
    at true true e = let less : n < k = grind (arith, nat_tests, e) in omega (arith, less, h)
    at true false e = h
    at false u e = h

nearer_self : (least n : ℕ) (found : Option ℕ) → least ≤ n → AtMost (nearer least n found) n
nearer_self least n None low = at (nat_le least n) refl
  where
    at : (t : Bool) → nat_le least n ≡ t → AtMost (cond t (Some n) None) n
    at true e = omega arith
    at false e = absurd (grind (arith, nat_tests, low, e))
nearer_self least n (Some k) low = at (nat_le least n) (nat_lt n k) refl refl
  where
    at : (t u : Bool) → nat_le least n ≡ t → nat_lt n k ≡ u →
        AtMost (cond (t && u) (Some n) (Some k)) n
    at true true e f = omega arith
    at true false e f = grind (arith, nat_tests, f)
    at false u e f = absurd (grind (arith, nat_tests, low, e))

nearer_from : (least n : ℕ) (found : Option ℕ) → IsFrom least found →
    IsFrom least (nearer least n found)
nearer_from least n None h = at (nat_le least n) refl
  where
    at : (t : Bool) → nat_le least n ≡ t → IsFrom least (cond t (Some n) None)
    at true e = grind (arith, nat_tests, e)
    at false e = tt
nearer_from least n (Some k) h = at (nat_le least n) (nat_lt n k) refl
  where
    at : (t u : Bool) → nat_le least n ≡ t → IsFrom least (cond (t && u) (Some n) (Some k))
    at true true e = grind (arith, nat_tests, e)
    at true false e = h
    at false u e = h

most_kept : (least m : ℕ) (found : Option ℕ) (rows : List ChargeColumns) → AtMost found m →
    AtMost (next_number least found rows) m
most_kept least m found [] h = h
most_kept least m found (c ∷ rest) h =
    most_kept least m (nearer least c.number found) rest (nearer_most least c.number m found h)

from_kept : (least : ℕ) (found : Option ℕ) (rows : List ChargeColumns) → IsFrom least found →
    IsFrom least (next_number least found rows)
from_kept least found [] h = h
from_kept least found (c ∷ rest) h =
    from_kept least (nearer least c.number found) rest (nearer_from least c.number found h)

-- it is no greater than that of any row
least_of : (least m : ℕ) (found : Option ℕ) (rows : List ChargeColumns) → least ≤ m →
    is_some (charge_in m rows) ≡ true → AtMost (next_number least found rows) m
least_of least m found [] low there = absurd (cc)
least_of least m found (c ∷ rest) low there =
    at (c.number == m) refl there (least_of least m (nearer least c.number found) rest low)
  where
    at : (t : Bool) → (c.number == m) ≡ t →
        is_some (cond t (Some c) (charge_in m rest)) ≡ true →
        (is_some (charge_in m rest) ≡ true →
        AtMost (next_number least (nearer least c.number found) rest) m) →
        AtMost (next_number least (nearer least c.number found) rest) m
    at true e is later =
        let same : c.number ≡ m = grind (arith, nat_tests, e) in
        most_kept least m (nearer least c.number found) rest
        (subst (λ n. AtMost (nearer least n found) m) (sym same) (nearer_self least m found low))
    at false e is later = later is

-- so no row has a number between
none_before : (x : Option ℕ) (m : ℕ) (rows : List ChargeColumns) → (AtMost x m → ⊥) →
    (is_some (charge_in m rows) ≡ true → AtMost x m) → charge_in m rows ≡ None
none_before x m rows above has = at (charge_in m rows) refl
  where
    at : (r : Option ChargeColumns) → charge_in m rows ≡ r → charge_in m rows ≡ None
    at None e = e
    at (Some c) e = absurd (above (has (ap is_some e)))

pub none_next : (least : ℕ) (rows : List ChargeColumns) → next_number least None rows ≡ None →
    (m : ℕ) → least ≤ m → charge_in m rows ≡ None
none_next least rows e m low =
    none_before None m rows (λ none. none)
    (λ there. subst (λ x. AtMost x m) e (least_of least m None rows low there))

-- the next number of rows
pub record IsNext (rows : List ChargeColumns) (least n : ℕ) : Type 0 where
  pub low : least ≤ n
  pub between : (m : ℕ) → least ≤ m → m < n → charge_in m rows ≡ None

pub is_next : (least n : ℕ) (rows : List ChargeColumns) → next_number least None rows ≡ Some n →
    IsNext rows least n
is_next least n rows e = record {
  low = subst (IsFrom least) e (from_kept least None rows tt);
  between = λ m low less.
      none_before (Some n) m rows (λ most. omega (arith, most, less))
      (λ there. subst (λ x. AtMost x m) e (least_of least m None rows low there));
}

-- ---- the rest of a list whose numbers rise

abbrev pub from_number : ℕ → List ChargeColumns → List ChargeColumns
from_number least rows = filter (λ c. nat_le least c.number) rows

pub all_from : (least low : ℕ) (all : List ChargeColumns) → are_rising low all ≡ true →
    least ≤ low → from_number least all ≡ all
all_from least low [] h le = refl
all_from least low (c ∷ rest) h le =
    let parts = rising_parts low c rest h in
    let above = parts.0 in
    let within : nat_le least c.number ≡ true = grind (arith, nat_tests, le, above) in
    ap (λ t. cond t (c ∷ from_number least rest) (from_number least rest)) within
    ∙ ap (λ l. c ∷ l) (all_from least (c.number + 1) rest parts.1 (omega (arith, le, above)))

-- where none has such a number none is left
pub none_from : (least : ℕ) (all : List ChargeColumns) →
    ((m : ℕ) → least ≤ m → charge_in m all ≡ None) → from_number least all ≡ []
none_from least [] none = refl
none_from least (c ∷ rest) none =
    at (nat_le least c.number) refl (λ below. none_from least rest (λ m low. past below m low))
  where
    past : c.number < least → (m : ℕ) → least ≤ m → charge_in m rest ≡ None
    past below m low =
        let other : (c.number == m) ≡ false = grind (arith, nat_tests, below, low) in
        sym (ap (λ t. cond t (Some c) (charge_in m rest)) other) ∙ none m low

    at : (t : Bool) → nat_le least c.number ≡ t →
        (c.number < least → from_number least rest ≡ []) →
        cond t (c ∷ from_number least rest) (from_number least rest) ≡ []
    at true e later =
        absurd (none-some c (sym (none c.number (grind (arith, nat_tests, e))) ∙ first_is c rest))
    at false e later = later (grind (arith, nat_tests, e))

-- the row of the next number, and those after it, are what is left
-- rule: charge-source.next-number
pub next_parts : (least n low : ℕ) (all : List ChargeColumns) → are_rising low all ≡ true →
    least ≤ n → ((m : ℕ) → least ≤ m → m < n → charge_in m all ≡ None) →
    one_or_none (charge_in n all) ++ from_number (n + 1) all ≡ from_number least all
next_parts least n low [] h le none = refl
next_parts least n low (c ∷ rest) h le none =
    let after = (rising_parts low c rest h).1 in
    at (c.number == n) (nat_le least c.number) (nat_le (n + 1) c.number) refl refl refl after
    (λ below. next_parts least n (c.number + 1) rest after le (past below))
  where
    past : c.number < least → (m : ℕ) → least ≤ m → m < n → charge_in m rest ≡ None
    past below m from less =
        let other : (c.number == m) ≡ false = grind (arith, nat_tests, below, from) in
        sym (ap (λ t. cond t (Some c) (charge_in m rest)) other) ∙ none m from less

    both : are_rising (c.number + 1) rest ≡ true → least ≤ c.number → n ≤ c.number →
        from_number (n + 1) rest ≡ from_number least rest
    both after from above =
        all_from (n + 1) (c.number + 1) rest after (omega (arith, above))
        ∙ sym (all_from least (c.number + 1) rest after (omega (arith, from)))

    at : (t u v : Bool) → (c.number == n) ≡ t → nat_le least c.number ≡ u →
        nat_le (n + 1) c.number ≡ v → are_rising (c.number + 1) rest ≡ true →
        (c.number < least →
        one_or_none (charge_in n rest) ++ from_number (n + 1) rest ≡ from_number least rest) →
        one_or_none (cond t (Some c) (charge_in n rest))
        ++ cond v (c ∷ from_number (n + 1) rest) (from_number (n + 1) rest)
        ≡ cond u (c ∷ from_number least rest) (from_number least rest)
    at true true false e f g after later =
        ap (λ l. c ∷ l)
        (both after (grind (arith, nat_tests, f)) (grind (arith, nat_tests, e)))
    at true true true e f g after later = absurd (grind (arith, nat_tests, e, g))
    at true false v e f g after later = absurd (grind (arith, nat_tests, e, f, le))
    at false true true e f g after later =
        let above : n ≤ c.number = grind (arith, nat_tests, g) in
        ap (λ r. one_or_none r ++ (c ∷ from_number (n + 1) rest))
        (absent (c.number + 1) n rest after (omega (arith, above)))
        ∙ ap (λ l. c ∷ l) (both after (grind (arith, nat_tests, f)) above)
    at false true false e f g after later =
        absurd (none-some c (sym (none c.number (grind (arith, nat_tests, f))
        (grind (arith, nat_tests, e, g))) ∙ first_is c rest))
    at false false false e f g after later = later (grind (arith, nat_tests, f))
    at false false true e f g after later = absurd (grind (arith, nat_tests, f, g, le))

-- ---- what was shown so far

module _ {V : Type 0} (Sees : V → ChargeColumns → Bool → V → Type 0) (from until : ℕ)
    (rows : List ChargeColumns) where
  abbrev Charges : ℕ → Option ChargeColumns
  Charges n = charge_in n rows

  -- a row of the range
  pub shown_one : (c : ChargeColumns) (goes : Bool) (old new : V) → Sees old c goes new →
      Shows Sees (c ∷ []) goes old new
  shown_one c true old new s = (new, true, s, (refl, refl))
  shown_one c false old new s = (new, false, s, (refl, refl))

  -- what a visitor becomes that is shown the rest, it becomes by all
  abbrev pub IsShownBelow : ℕ → V → V → Type 0
  IsShownBelow least old now = (all : List ChargeColumns) → AreCharges Charges all →
      (goes : Bool) (new : V) →
      Shows Sees (filter (is_between from until) (from_number least all)) goes now new →
      Shows Sees (filter (is_between from until) all) goes old new

  pub none_shown : (v : V) → IsShownBelow 0 v v
  none_shown v all are goes new h =
      subst (λ l. Shows Sees (filter (is_between from until) l) goes v new)
      (all_from 0 0 all are.rising (omega arith)) h

  parted : (least n : ℕ) (all : List ChargeColumns) → AreCharges Charges all →
      IsNext rows least n →
      filter (is_between from until) (one_or_none (Charges n))
      ++ filter (is_between from until) (from_number (n + 1) all)
      ≡ filter (is_between from until) (from_number least all)
  parted least n all are next =
      let p = is_between from until in
      sym (filter-append p (one_or_none (Charges n)) (from_number (n + 1) all))
      ∙ ap (λ r. filter p (one_or_none r ++ from_number (n + 1) all)) (sym (are.listed n))
      ∙ ap (filter p) (next_parts least n 0 all are.rising next.low
      (λ m low less. are.listed m ∙ next.between m low less))

  -- one number more
  pub next_shown : (least n : ℕ) (old now next : V) → IsShownBelow least old now →
      next_number least None rows ≡ Some n →
      Shows Sees (filter (is_between from until) (one_or_none (Charges n))) true now next →
      IsShownBelow (n + 1) old next
  next_shown least n old now next had e shows all are goes new h =
      let p = is_between from until in
      had all are goes new
      (subst (λ l. Shows Sees l goes now new) (parted least n all are (is_next least n rows e))
      (shows_then Sees (filter p (one_or_none (Charges n)))
      (filter p (from_number (n + 1) all)) goes now next new shows h))

  -- the visitor stopped
  pub stopped_at : (least n : ℕ) (old now next : V) → IsShownBelow least old now →
      next_number least None rows ≡ Some n →
      Shows Sees (filter (is_between from until) (one_or_none (Charges n))) false now next →
      SeesCharges Sees from until Charges old next
  stopped_at least n old now next had e shows all are =
      let p = is_between from until in
      shown_visits Sees (filter p all) false old next
      (had all are false next
      (subst (λ l. Shows Sees l false now next) (parted least n all are (is_next least n rows e))
      (shows_stopped Sees (filter p (one_or_none (Charges n)))
      (filter p (from_number (n + 1) all)) now next shows)))

  -- no number is left
  -- rule: charge-source.next-number
  pub all_shown : (least : ℕ) (old now : V) → IsShownBelow least old now →
      next_number least None rows ≡ None → SeesCharges Sees from until Charges old now
  all_shown least old now had e all are =
      let p = is_between from until in
      shown_visits Sees (filter p all) true old now
      (had all are true now
      (subst (λ l. Shows Sees (filter p l) true now now)
      (sym (none_from least all (λ m low. are.listed m ∙ none_next least rows e m low)))
      (refl, refl)))
