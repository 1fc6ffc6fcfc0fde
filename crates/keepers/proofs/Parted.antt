-- Charges whose numbers rise, parted by their numbers.
use Rattle.std.proofs.Common.{◌≡◌, ℕ, ◌+◌, ◌<◌, ◌≤◌, Bool, true, false, cond, List, [], ◌∷◌, ◌++◌}
use Rattle.std.proofs.Common.{Some, None, refl, sym, ap, ◌∙◌, arith, nat_lt}
use Rattle.std.specs.Prelude.{◌==◌, ◌&&◌, nat_le, Option}
use Rattle.std.specs.List.{filter}
use Rattle.std.proofs.lemmas.Bool.{and_parts, and_from}
use Rattle.std.proofs.lemmas.Bool.Decides.{nat_tests}
use Rattle.std.proofs.lemmas.Option.{none-some}
use Rattle.ledger.specs.ChargeColumns.{ChargeColumns}
use Rattle.reserving.specs.Left.{only}
use Rattle.keepers.specs.Tables.{charge_in}
use Rattle.keepers.specs.Rows.{are_rising, AreCharges}
use Rattle.keepers.specs.Pages.{is_number_within}
use Rattle.keepers.proofs.Unique.{rising_parts, absent, first_is, same_lists}

abbrev pub up_to : ℕ → List ChargeColumns → List ChargeColumns
up_to a rows = filter (λ c. nat_le c.number a) rows

abbrev pub beyond : ℕ → List ChargeColumns → List ChargeColumns
beyond a rows = filter (λ c. nat_lt a c.number) rows

-- ---- filters of rows that rise

weaker : (low least : ℕ) (rows : List ChargeColumns) → low ≤ least → are_rising least rows ≡ true →
    are_rising low rows ≡ true
weaker low least [] less h = refl
weaker low least (c ∷ rest) less h =
    let parts = rising_parts least c rest h in
    let above = parts.0 in
    and_from (nat_le low c.number) (are_rising (c.number + 1) rest)
    (grind (arith, nat_tests, less, above)) parts.1

pub rising_filtered : (p : ChargeColumns → Bool) (least : ℕ) (rows : List ChargeColumns) →
    are_rising least rows ≡ true → are_rising least (filter p rows) ≡ true
rising_filtered p least [] h = refl
rising_filtered p least (c ∷ rest) h =
    let parts = rising_parts least c rest h in
    at (p c) (and_parts (nat_le least c.number) (are_rising (c.number + 1) rest) h).0 parts.0
    (rising_filtered p (c.number + 1) rest parts.1)
  where
    at : (t : Bool) → nat_le least c.number ≡ true → least ≤ c.number →
        are_rising (c.number + 1) (filter p rest) ≡ true →
        are_rising least (cond t (c ∷ filter p rest) (filter p rest)) ≡ true
    at true low above later =
        and_from (nat_le least c.number) (are_rising (c.number + 1) (filter p rest)) low later
    at false low above later =
        weaker least (c.number + 1) (filter p rest) (omega (arith, above)) later

pub find_filtered : (p : ChargeColumns → Bool) (least n : ℕ) (rows : List ChargeColumns) →
    are_rising least rows ≡ true → charge_in n (filter p rows) ≡ only p (charge_in n rows)
find_filtered p least n [] h = refl
find_filtered p least n (c ∷ rest) h =
    let after = (rising_parts least c rest h).1 in
    at (p c) (c.number == n) refl refl after (find_filtered p (c.number + 1) n rest after)
  where
    none : (c.number == n) ≡ true → are_rising (c.number + 1) rest ≡ true → charge_in n rest ≡ None
    none e after = absent (c.number + 1) n rest after (grind (arith, nat_tests, e))

    at : (t u : Bool) → p c ≡ t → (c.number == n) ≡ u → are_rising (c.number + 1) rest ≡ true →
        charge_in n (filter p rest) ≡ only p (charge_in n rest) →
        charge_in n (cond t (c ∷ filter p rest) (filter p rest))
        ≡ only p (cond u (Some c) (charge_in n rest))
    at true true e f after later =
        ap (λ b. cond b (Some c) (charge_in n (filter p rest))) f
        ∙ sym (ap (λ b. cond b (Some c) None) e)
    at true false e f after later =
        ap (λ b. cond b (Some c) (charge_in n (filter p rest))) f ∙ later
    at false true e f after later =
        later ∙ ap (only p) (none f after) ∙ sym (ap (λ b. cond b (Some c) None) e)
    at false false e f after later = later

filter_twice : (p q r : ChargeColumns → Bool) → ((c : ChargeColumns) → (q c && p c) ≡ r c) →
    (rows : List ChargeColumns) → filter p (filter q rows) ≡ filter r rows
filter_twice p q r same [] = refl
filter_twice p q r same (c ∷ rest) =
    at (q c) (p c) (r c) refl refl (same c) (filter_twice p q r same rest)
  where
    at : (t u v : Bool) → q c ≡ t → p c ≡ u → (t && u) ≡ v →
        filter p (filter q rest) ≡ filter r rest →
        filter p (cond t (c ∷ filter q rest) (filter q rest))
        ≡ cond v (c ∷ filter r rest) (filter r rest)
    at true true true e f g later =
        ap (λ b. cond b (c ∷ filter p (filter q rest)) (filter p (filter q rest))) f
        ∙ ap (λ l. c ∷ l) later
    at true false false e f g later =
        ap (λ b. cond b (c ∷ filter p (filter q rest)) (filter p (filter q rest))) f ∙ later
    at false u false e f g later = later
    at true true false e f g later = absurd (cc)
    at true false true e f g later = absurd (cc)
    at false u true e f g later = absurd (cc)

-- ---- parts

pub none_up_to : (a least : ℕ) (rows : List ChargeColumns) →
    are_rising least rows ≡ true → a < least →
    up_to a rows ≡ []
none_up_to a least [] h less = refl
none_up_to a least (c ∷ rest) h less =
    let parts = rising_parts least c rest h in
    let above = parts.0 in
    let out : nat_le c.number a ≡ false = grind (arith, nat_tests, less, above) in
    ap (λ t. cond t (c ∷ up_to a rest) (up_to a rest)) out
    ∙ none_up_to a (c.number + 1) rest parts.1 (omega (arith, less, above))

-- those up to a number, and those beyond it
pub parted : (a least : ℕ) (rows : List ChargeColumns) → are_rising least rows ≡ true →
    up_to a rows ++ beyond a rows ≡ rows
parted a least [] h = refl
parted a least (c ∷ rest) h =
    let after = (rising_parts least c rest h).1 in
    at (nat_le c.number a) (nat_lt a c.number) refl refl after (parted a (c.number + 1) rest after)
  where
    none : nat_lt a c.number ≡ true → are_rising (c.number + 1) rest ≡ true → up_to a rest ≡ []
    none e after = none_up_to a (c.number + 1) rest after
        (let low : a < c.number = grind (arith, nat_tests, e) in omega (arith, low))

    at : (t u : Bool) → nat_le c.number a ≡ t → nat_lt a c.number ≡ u →
        are_rising (c.number + 1) rest ≡ true →
        up_to a rest ++ beyond a rest ≡ rest →
        cond t (c ∷ up_to a rest) (up_to a rest)
        ++ cond u (c ∷ beyond a rest) (beyond a rest) ≡ c ∷ rest
    at true false e f after later = ap (λ l. c ∷ l) later
    at false true e f after later =
        let empty = none f after in
        ap (λ l. l ++ (c ∷ beyond a rest)) empty
        ∙ ap (λ l. c ∷ l) (sym (ap (λ l. l ++ beyond a rest) empty) ∙ later)
    at true true e f after later = absurd (grind (arith, nat_tests, e, f))
    at false false e f after later = absurd (grind (arith, nat_tests, e, f))

-- those of a page follow those up to it
pub grown : (after last least : ℕ) (rows : List ChargeColumns) → are_rising least rows ≡ true →
    after ≤ last →
    up_to after rows ++ filter (is_number_within after last) rows ≡ up_to last rows
grown after last least rows h less =
    sym (ap (λ l. l ++ filter (is_number_within after last) rows)
    (filter_twice (λ c. nat_le c.number after) (λ c. nat_le c.number last)
    (λ c. nat_le c.number after)
    (λ c. low c.number (nat_le c.number last) (nat_le c.number after) refl refl) rows))
    ∙ sym (ap (λ l. up_to after (up_to last rows) ++ l)
    (filter_twice (λ c. nat_lt after c.number) (λ c. nat_le c.number last)
    (is_number_within after last)
    (λ c. turned (nat_le c.number last) (nat_lt after c.number)) rows))
    ∙ parted after least (up_to last rows)
    (rising_filtered (λ c. nat_le c.number last) least rows h)
  where
    low : (n : ℕ) (t u : Bool) → nat_le n last ≡ t → nat_le n after ≡ u → (t && u) ≡ u
    low n true u e f = refl
    low n false false e f = refl
    low n false true e f = absurd (grind (arith, nat_tests, less, e, f))

    turned : (t u : Bool) → (t && u) ≡ (u && t)
    turned true true = refl
    turned true false = refl
    turned false true = refl
    turned false false = refl

-- where none is beyond, they are all
pub all_up_to : (a least : ℕ) (rows : List ChargeColumns) → are_rising least rows ≡ true →
    ((n : ℕ) → a < n → charge_in n rows ≡ None) → up_to a rows ≡ rows
all_up_to a least [] h none = refl
all_up_to a least (c ∷ rest) h none =
    let after = (rising_parts least c rest h).1 in
    at (nat_le c.number a) refl
    (λ in_row. all_up_to a (c.number + 1) rest after (λ n less. past in_row n less (none n less)))
  where
    past : c.number ≤ a → (n : ℕ) → a < n → charge_in n (c ∷ rest) ≡ None → charge_in n rest ≡ None
    past small n less e =
        let other : (c.number == n) ≡ false = grind (arith, nat_tests, small, less) in
        sym (ap (λ t. cond t (Some c) (charge_in n rest)) other) ∙ e

    at : (t : Bool) → nat_le c.number a ≡ t → (c.number ≤ a → up_to a rest ≡ rest) →
        cond t (c ∷ up_to a rest) (up_to a rest) ≡ c ∷ rest
    at true e later = ap (λ l. c ∷ l) (later (grind (arith, nat_tests, e)))
    at false e later =
        absurd (none-some c (sym (none c.number (grind (arith, nat_tests, e))) ∙ first_is c rest))

-- ---- a page

-- rows that rise and say the same are the charges beyond a number, up to another
pub page_is : {charges : ℕ → Option ChargeColumns} {rows : List ChargeColumns} (after last : ℕ)
    (xs : List ChargeColumns) → AreCharges charges rows → are_rising 0 xs ≡ true →
    ((n : ℕ) → charge_in n xs ≡ only (is_number_within after last) (charge_in n rows)) →
    xs ≡ filter (is_number_within after last) rows
page_is {charges} {rows} after last xs are rising tells =
    same_lists 0 xs (filter (is_number_within after last) rows) rising
    (rising_filtered (is_number_within after last) 0 rows are.rising)
    (λ n. tells n ∙ sym (find_filtered (is_number_within after last) 0 n rows are.rising))
