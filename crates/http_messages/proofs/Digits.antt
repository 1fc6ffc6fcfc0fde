-- The number that digits say.
use Rattle.std.proofs.Common.{◌≡◌, ◌&&◌, ◌≤◌, ◌<◌, ℕ, List, [], ◌∷◌, length, true, Ok, Result}
use Rattle.std.proofs.Common.{arith, refl, sym, ap, ◌∙◌}
use Rattle.std.specs.List.{list_all}
use Rattle.std.specs.Char.{is_ascii_digit}
use Rattle.std.specs.Str.{all_ascii_digits, IsAscii, IsUtf8}
use Rattle.std.specs.Str.Parse.{ParsesUnsigned, digits_value}
use Rattle.std.proofs.lemmas.Str.{IsUtf8-from_ascii}
use Rattle.std.proofs.lemmas.Str.Ascii.{IsAscii-nil, IsAscii-cons}
use Rattle.std.proofs.lemmas.Str.Parse.{IsNumeralModel, numerals_by_value, tells_all_ascii_digits}
use Rattle.std.proofs.lemmas.Str.Parse.{parse_gives, digits_value_short}

all_same : (ds : List ℕ) → list_all is_ascii_digit ds ≡ all_ascii_digits ds
all_same [] = refl
all_same (d ∷ ds) = ap (λ b. is_ascii_digit d && b) (all_same ds)

own : IsNumeralModel (λ ds. all_ascii_digits ds ≡ true) (digits_value 10)
own = numerals_by_value (λ ds. all_ascii_digits ds ≡ true) tells_all_ascii_digits

-- rule: http-length
pub number_parsed : {E : Type 0} (bs : List ℕ) (r : Result ℕ E) → ParsesUnsigned 64 10 bs r
    → 0 < length bs → length bs ≤ 18
    → list_all is_ascii_digit bs ≡ true → r ≡ Ok (digits_value 10 bs)
number_parsed bs r h some few all =
    let digits = sym (all_same bs) ∙ all in
    parse_gives own 64 bs r h digits some (omega (arith, digits_value_short own bs 18 digits few))

digits_ascii : (ds : List ℕ) → all_ascii_digits ds ≡ true → IsAscii ds
digits_ascii [] e = IsAscii-nil
digits_ascii (d ∷ ds) e =
    let k = tells_all_ascii_digits.parts d ds e in
    IsAscii-cons d ds (omega (arith, k.0.1)) (digits_ascii ds k.1)

pub digits_utf8 : (ds : List ℕ) → list_all is_ascii_digit ds ≡ true → IsUtf8 ds
digits_utf8 ds e = IsUtf8-from_ascii ds (digits_ascii ds (sym (all_same ds) ∙ e))
