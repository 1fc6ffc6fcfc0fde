-- An account's charges are one list.
use Rattle.std.proofs.Common.{◌≡◌, ℕ, ◌+◌, ◌<◌, ◌≤◌, Bool, true, false, cond, List, [], ◌∷◌, Some}
use Rattle.std.proofs.Common.{None, refl, sym, ap, ◌∙◌, arith}
use Rattle.std.specs.Prelude.{◌==◌, ◌&&◌, nat_le, Option}
use Rattle.std.proofs.lemmas.Bool.{and_parts}
use Rattle.std.proofs.lemmas.Bool.Decides.{nat_tests}
use Rattle.std.proofs.lemmas.Option.{none-some, same_Some}
use Rattle.ledger.specs.ChargeColumns.{ChargeColumns}
use Rattle.keepers.specs.Tables.{charge_in}
use Rattle.keepers.specs.Rows.{are_rising, AreCharges}

-- the first of rising rows, and the others
pub rising_parts : (least : ℕ) (c : ChargeColumns) (rest : List ChargeColumns) →
    are_rising least (c ∷ rest) ≡ true →
    (least ≤ c.number) × (are_rising (c.number + 1) rest ≡ true)
rising_parts least c rest h =
    let parts = and_parts (nat_le least c.number) (are_rising (c.number + 1) rest) h in
    let low = parts.0 in
    (grind (arith, nat_tests, low), parts.1)

-- no row has a number below
pub absent : (least n : ℕ) (rows : List ChargeColumns) → are_rising least rows ≡ true → n < least →
    charge_in n rows ≡ None
absent least n [] h k = refl
absent least n (c ∷ rest) h k =
    at (c.number == n) refl (rising_parts least c rest h)
    (λ r. absent (c.number + 1) n rest r.1 (let low = r.0 in omega arith))
  where
    at : (t : Bool) → (c.number == n) ≡ t →
        (least ≤ c.number) × (are_rising (c.number + 1) rest ≡ true) →
        ((least ≤ c.number) × (are_rising (c.number + 1) rest ≡ true) → charge_in n rest ≡ None) →
        cond t (Some c) (charge_in n rest) ≡ None
    at true e r later = let low = r.0 in absurd (grind (arith, nat_tests, e, k, low))
    at false e r later = later r

pub itself : (n : ℕ) → (n == n) ≡ true
itself n = grind (arith, nat_tests)

-- the first row's charge is the row
pub first_is : (c : ChargeColumns) (rest : List ChargeColumns) →
    charge_in c.number (c ∷ rest) ≡ Some c
first_is c rest = ap (λ t. cond t (Some c) (charge_in c.number rest)) (itself c.number)

abbrev SameCharges : List ChargeColumns → List ChargeColumns → Type 0
SameCharges xs ys = (n : ℕ) → charge_in n xs ≡ charge_in n ys

-- a row that isn't below another's number isn't the other
not_below : (x y : ChargeColumns) (xs ys : List ChargeColumns) →
    are_rising y.number (y ∷ ys) ≡ true → SameCharges (x ∷ xs) (y ∷ ys) → x.number < y.number → ⊥
not_below x y xs ys h same k =
    none-some x (sym (absent y.number x.number (y ∷ ys) h k) ∙ sym (same x.number) ∙ first_is x xs)

rising_self : (least : ℕ) (c : ChargeColumns) (rest : List ChargeColumns) →
    are_rising least (c ∷ rest) ≡ true → are_rising c.number (c ∷ rest) ≡ true
rising_self least c rest h =
    ap (λ t. t && are_rising (c.number + 1) rest) (leb_self c.number)
    ∙ (rising_parts least c rest h).1
  where
    leb_self : (n : ℕ) → nat_le n n ≡ true
    leb_self n = grind (arith, nat_tests)

same_numbers : (least : ℕ) (x y : ChargeColumns) (xs ys : List ChargeColumns) →
    are_rising least (x ∷ xs) ≡ true → are_rising least (y ∷ ys) ≡ true →
    SameCharges (x ∷ xs) (y ∷ ys) → x.number ≡ y.number
same_numbers least x y xs ys h k same =
    let below = not_below x y xs ys (rising_self least y ys k) same in
    let above = not_below y x ys xs (rising_self least x xs h) (λ n. sym (same n)) in
    equal x.number y.number below above
  where
    equal : (a b : ℕ) → (a < b → ⊥) → (b < a → ⊥) → a ≡ b
    equal a b p q = grind (arith, p, q)

same_first : (least : ℕ) (x y : ChargeColumns) (xs ys : List ChargeColumns) →
    are_rising least (x ∷ xs) ≡ true → are_rising least (y ∷ ys) ≡ true →
    SameCharges (x ∷ xs) (y ∷ ys) → x ≡ y
same_first least x y xs ys h k same =
    same_Some x y
    (sym (first_is x xs) ∙ same x.number
    ∙ ap (λ n. charge_in n (y ∷ ys)) (same_numbers least x y xs ys h k same)
    ∙ first_is y ys)

same_rest : (x : ChargeColumns) (xs ys : List ChargeColumns) →
    are_rising (x.number + 1) xs ≡ true → are_rising (x.number + 1) ys ≡ true →
    SameCharges (x ∷ xs) (x ∷ ys) → SameCharges xs ys
same_rest x xs ys h k same n = at (x.number == n) refl (same n)
  where
    at : (t : Bool) → (x.number == n) ≡ t →
        cond t (Some x) (charge_in n xs) ≡ cond t (Some x) (charge_in n ys) →
        charge_in n xs ≡ charge_in n ys
    at true e s =
        let low : n < x.number + 1 = grind (arith, nat_tests, e) in
        absent (x.number + 1) n xs h low ∙ sym (absent (x.number + 1) n ys k low)
    at false e s = s

pub same_lists : (least : ℕ) (xs ys : List ChargeColumns) → are_rising least xs ≡ true →
    are_rising least ys ≡ true → SameCharges xs ys → xs ≡ ys
same_lists least [] [] h k same = refl
same_lists least [] (y ∷ ys) h k same = absurd (none-some y (same y.number ∙ first_is y ys))
same_lists least (x ∷ xs) [] h k same = absurd (none-some x (sym (same x.number) ∙ first_is x xs))
same_lists least (x ∷ xs) (y ∷ ys) h k same =
    let first = same_first least x y xs ys h k same in
    let left = (rising_parts least x xs h).1 in
    let right : are_rising (x.number + 1) ys ≡ true =
    ap (λ c. are_rising (c.number + 1) ys) first ∙ (rising_parts least y ys k).1 in
    let rest : SameCharges (x ∷ xs) (x ∷ ys) = λ n.
    same n ∙ ap (λ c. charge_in n (c ∷ ys)) (sym first) in
    let others = same_lists (x.number + 1) xs ys left right (same_rest x xs ys left right rest) in
    λ i. first i ∷ others i

-- an account's charges are one list
-- rule: charge-source
pub one_list : {charges : ℕ → Option ChargeColumns} {xs ys : List ChargeColumns} →
    AreCharges charges xs → AreCharges charges ys → xs ≡ ys
one_list {charges} {xs} {ys} h k =
    same_lists 0 xs ys h.rising k.rising (λ n. h.listed n ∙ sym (k.listed n))
