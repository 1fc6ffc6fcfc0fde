-- What SQL's tests say of numbers that lie beyond one and up to another.
use Rattle.std.proofs.Common.{◌≡◌, ℕ, pos, negsuc, Bool, true, false, ◌&&◌, cond, Less, Equal}
use Rattle.std.proofs.Common.{Ordering}
use Rattle.std.proofs.Common.{Greater, Some, is_eq, refl, sym, ap, ap₂, ◌∙◌, arith, nat_lt}
use Rattle.std.specs.Prelude.{nat_le}
use Rattle.std.specs.Ordering.{is_gt, is_le}
use Rattle.std.proofs.lemmas.Bool.{and_parts}
use Rattle.std.proofs.lemmas.Bool.Decides.{nat_tests}
use Rattle.sqlite_value.specs.declared.value.Value.{Value}
use Rattle.sqlite_value.specs.declared.value.Value.TheVariants.{Null, Int, Real, Text, Blob}
use Rattle.sqlite_value.specs.declared.keys.Collation.TheVariants.{Binary}
use Rattle.sqlite_value.specs.Order.{value_cmp}
use Rattle.sqlite_value.proofs.OrderLemmas.{value_cmp-Int, value_cmp_total}
use Rattle.sqlite_sql.specs.Ops.{binary, is_true, from_truth}
use Rattle.sqlite_sql.specs.declared.ops.BinaryOp.TheVariants.{Compare}
use Rattle.sqlite_sql.specs.declared.ops.CompareOp.TheVariants.{Gt, Le}
use Rattle.sql_tables.proofs.Steps.{truth_told}
use Rattle.sql_tables.proofs.Ties.{equal_is}
use Rattle.sql_rows.specs.Values.{nat, nat_in}

abbrev pub is_beyond : Value → Value → Bool
is_beyond v w = is_true (binary (Compare Gt Binary) v w)

abbrev pub is_up_to : Value → Value → Bool
is_up_to v w = is_true (binary (Compare Le Binary) v w)

more : (m n : ℕ) (p q : Bool) → nat_lt m n ≡ p → nat_lt n m ≡ q →
    is_gt (cond p Less (cond q Greater Equal)) ≡ q
more m n true true e f = absurd (grind (arith, nat_tests, e, f))
more m n true false e f = refl
more m n false true e f = refl
more m n false false e f = refl

no_more : (m n : ℕ) (p q r : Bool) → nat_lt m n ≡ p → nat_lt n m ≡ q → nat_le m n ≡ r →
    is_le (cond p Less (cond q Greater Equal)) ≡ r
no_more m n true q true e f g = refl
no_more m n true q false e f g = absurd (grind (arith, nat_tests, e, g))
no_more m n false true true e f g = absurd (grind (arith, nat_tests, f, g))
no_more m n false true false e f g = refl
no_more m n false false true e f g = refl
no_more m n false false false e f g = absurd (grind (arith, nat_tests, f, g))

pub beyond_told : (m n : ℕ) → is_beyond (nat m) (nat n) ≡ nat_lt n m
unfolding binary
beyond_told m n =
    ap (λ o. is_true (from_truth (Some (is_gt o)))) (value_cmp-Int (pos m) (pos n))
    ∙ ap (λ t. is_true (from_truth (Some t))) (more m n (nat_lt m n) (nat_lt n m) refl refl)
    ∙ truth_told (nat_lt n m)

pub up_to_told : (m n : ℕ) → is_up_to (nat m) (nat n) ≡ nat_le m n
unfolding binary
up_to_told m n =
    ap (λ o. is_true (from_truth (Some (is_le o)))) (value_cmp-Int (pos m) (pos n))
    ∙ ap (λ t. is_true (from_truth (Some t)))
    (no_more m n (nat_lt m n) (nat_lt n m) (nat_le m n) refl refl refl)
    ∙ truth_told (nat_le m n)

-- of both tests
abbrev pub lies_within : ℕ → ℕ → Value → Bool
lies_within after last v = is_beyond v (nat after) && is_up_to v (nat last)

pub within_told : (after last m : ℕ) →
    lies_within after last (nat m) ≡ (nat_lt after m && nat_le m last)
within_told after last m = ap₂ ◌&&◌ (beyond_told m after) (up_to_told m last)

not_none : (after last : ℕ) → (nat_lt after 0 && nat_le 0 last) ≡ true → ⊥
not_none after last h = let low = (and_parts (nat_lt after 0) (nat_le 0 last) h).0 in
    grind (arith, nat_tests, low)

-- what isn't a number reads as 0, which lies beyond none
pub number_within : (after last : ℕ) (v : Value) →
    (nat_lt after (nat_in v) && nat_le (nat_in v) last) ≡ true → lies_within after last v ≡ true
number_within after last (Int (pos m)) h = within_told after last m ∙ h
number_within after last Null h = absurd (not_none after last h)
number_within after last (Int (negsuc m)) h = absurd (not_none after last h)
number_within after last (Real x) h = absurd (not_none after last h)
number_within after last (Text t) h = absurd (not_none after last h)
number_within after last (Blob b) h = absurd (not_none after last h)

-- ---- a value that ties with a number lies where the number does

abbrev is_number : Value → Bool
is_number Null = false
is_number (Int n) = true
is_number (Real x) = true
is_number (Text t) = false
is_number (Blob b) = false

tied_number : (n : ℕ) (v : Value) → is_eq (value_cmp (nat n) v) ≡ true → is_number v ≡ true
unfolding value_cmp
tied_number n (Int m) tie = refl
tied_number n (Real x) tie = refl
tied_number n Null tie = absurd (cc)
tied_number n (Text t) tie = absurd (cc)
tied_number n (Blob b) tie = absurd (cc)

abbrev compared : Ordering → Ordering → Bool
compared o p = is_true (from_truth (Some (is_gt o))) && is_true (from_truth (Some (is_le p)))

compared_told : (after last : ℕ) (v : Value) → is_number v ≡ true → lies_within after last v
    ≡ compared (value_cmp v (nat after)) (value_cmp v (nat last))
unfolding binary
compared_told after last (Int n) h = refl
compared_told after last (Real x) h = refl
compared_told after last Null h = absurd (cc)
compared_told after last (Text t) h = absurd (cc)
compared_told after last (Blob b) h = absurd (cc)

pub tied_within : (after last n : ℕ) (v : Value) → is_eq (value_cmp (nat n) v) ≡ true
    → (nat_lt after n && nat_le n last) ≡ true → lies_within after last v ≡ true
tied_within after last n v tie h =
    let equal = equal_is (value_cmp (nat n) v) tie in
    let one = value_cmp_total.congr (nat n) v (nat after) equal in
    let two = value_cmp_total.congr (nat n) v (nat last) equal in
    compared_told after last v (tied_number n v tie)
    ∙ ap₂ compared (sym one) (sym two)
    ∙ sym (compared_told after last (nat n) refl)
    ∙ within_told after last n
    ∙ h
