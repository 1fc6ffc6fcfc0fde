-- A field of a record, and fields that are no text.
use Rattle.std.proofs.Common.{◌≡◌, ◌&&◌, ◌==◌, ◌<◌, ◌≤◌, ℕ, zero, suc, List, [], ◌∷◌, length, true}
use Rattle.std.proofs.Common.{false, Option, Some, None, IsUtf8, refl, ap, ◌∙◌, arith, All}
use Rattle.std.specs.Prelude.{IfSome, nat_le}
use Rattle.std.specs.List.{list_all}
use Rattle.std.specs.Char.{is_ascii_digit}
use Rattle.std.proofs.lemmas.List.Elements.{All-cons, All-nil}
use Rattle.std.proofs.lemmas.Str.{IsUtf8-from_ascii}
use Rattle.std.proofs.lemmas.Str.Ascii.{IsAscii-from_all}
use Rattle.std.proofs.lemmas.Bool.{and_parts, and_right, false_from_ne_true, leb-true}
use Rattle.csv.specs.Records.{field_at}
use Rattle.identifiers.specs.Texts.{is_digit, is_voucher_code}
use Rattle.texts.specs.Numbers.{number_of}
use Rattle.voucher_rules.specs.Terms.{are_days, are_terms}
use Rattle.vouchers.specs.Rows.{field}

-- the field at a place, as a look-up tells it
pub field_found : (fields : List (List ℕ)) (i : ℕ) (f : List ℕ) → Some f ≡ field_at fields i
    → f ≡ field fields i
unfolding field_at
field_found [] i f e = cc e
field_found (g ∷ fs) zero f e = cc e
field_found (g ∷ fs) (suc i) f e = field_found fs i f e

pub field_missing : (fields : List (List ℕ)) (i : ℕ) → None ≡ field_at fields i
    → [] ≡ field fields i
unfolding field_at
field_missing [] i e = refl
field_missing (g ∷ fs) zero e = cc e
field_missing (g ∷ fs) (suc i) e = field_missing fs i e

-- digits are ASCII
ascii : (bs : List ℕ) → list_all is_digit bs ≡ true → All (λ b. b < 128) bs
ascii [] e = All-nil (λ b. b < 128)
ascii (b ∷ bs) e =
    let (here, more) = and_parts (is_digit b) (list_all is_digit bs) e in
    let under = leb-true b 57 (and_parts (nat_le 48 b) (nat_le b 57) here).1 in
    All-cons (λ b. b < 128) b bs (omega (arith, under)) (ascii bs more)

-- what is no text isn't all digits
no_digits : (bs : List ℕ) → ¬ (IsUtf8 bs) → list_all is_digit bs ≡ false
no_digits bs other = false_from_ne_true (list_all is_digit bs)
    (λ e. other (IsUtf8-from_ascii bs (IsAscii-from_all bs (ascii bs e))))

same_digits : (bs : List ℕ) → list_all is_ascii_digit bs ≡ list_all is_digit bs
same_digits [] = refl
same_digits (b ∷ bs) = ap (λ t. is_digit b && t) (same_digits bs)

-- so it says no number
pub no_number : (bs : List ℕ) → ¬ (IsUtf8 bs) → number_of bs ≡ None
no_number bs other =
    rw (and_right (nat_le 1 (length bs)) _
    (and_right (nat_le (length bs) 16) _ (same_digits bs ∙ no_digits bs other))) refl

-- and is no code
pub no_code : (bs : List ℕ) → ¬ (IsUtf8 bs) → is_voucher_code bs ≡ false
no_code bs other = and_right (length bs == 12) _ (no_digits bs other)

-- an amount and days in their ranges are terms
days_in_range : (days : Option ℕ) → IfSome days (λ n. (1 ≤ n) × (n ≤ 3650)) → are_days days ≡ true
days_in_range None h = refl
days_in_range (Some n) h = grind arith

pub terms_in_range : (amount : ℕ) (days : Option ℕ)
    → (1 ≤ amount) × (amount ≤ 1_000_000_000_000_000)
    → IfSome days (λ n. (1 ≤ n) × (n ≤ 3650)) → are_terms amount days ≡ true
terms_in_range amount days some h = grind (arith, days_in_range days h)
