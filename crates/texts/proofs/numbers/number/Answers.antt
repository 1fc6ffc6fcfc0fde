use Rattle.std.proofs.Common.{◌≡◌, ◌&&◌, ◌≤◌, ◌<◌, ℕ, List, [], ◌∷◌, length, true, Some, Ok, Result}
use Rattle.std.proofs.Common.{arith, refl, sym, ap, ◌∙◌}
use Rattle.std.specs.List.{list_all}
use Rattle.std.specs.Char.{is_ascii_digit}
use Rattle.std.specs.Result.{result_ok}
use Rattle.std.specs.Str.{all_ascii_digits}
use Rattle.std.specs.Str.Parse.{ParsesUnsigned, digits_value}
use Rattle.std.proofs.lemmas.Str.Parse.{IsNumeralModel, numerals_by_value, tells_all_ascii_digits}
use Rattle.std.proofs.lemmas.Str.Parse.{parse_gives, digits_value_short}
use Rattle.texts.specs.Numbers.{number_of}
use Rattle.texts.proofs.numbers.number.Goals as goal

all_same : (ds : List ℕ) → list_all is_ascii_digit ds ≡ all_ascii_digits ds
all_same [] = refl
all_same (d ∷ ds) = ap (λ b. is_ascii_digit d && b) (all_same ds)

own : IsNumeralModel (λ ds. all_ascii_digits ds ≡ true) (digits_value 10)
own = numerals_by_value (λ ds. all_ascii_digits ds ≡ true) tells_all_ascii_digits

-- rule: written-numbers
number_parsed : {E : Type 0} (bs : List ℕ) (r : Result ℕ E) → ParsesUnsigned 64 10 bs r
    → 0 < length bs → length bs ≤ 16
    → list_all is_ascii_digit bs ≡ true → r ≡ Ok (digits_value 10 bs)
number_parsed bs r h some few all =
    let digits = sym (all_same bs) ∙ all in
    parse_gives own 64 bs r h digits some (omega (arith, digits_value_short own bs 16 digits few))

number_value : (bs : List ℕ) → 0 < length bs → length bs ≤ 16 → list_all is_ascii_digit bs ≡ true →
    number_of bs ≡ Some (digits_value 10 bs)
number_value bs some few all = grind arith

pub returns : goal.returns
returns c =
    let bs = c.args.text.now in
    let some : 0 < length bs = grind (arith, c.is_empty.ensures, c.if-is_empty.false) in
    let few : length bs ≤ 16 = omega (arith, c.if-text-gt-MOST_DIGITS.false) in
    let all : list_all is_ascii_digit bs ≡ true = sym c.is_digits.ensures
    ∙ c.if-not-is_digits.false in
    let parsed = number_parsed bs c.parse.result c.parse.ensures.value.0 some few all in
    c.ok.ensures.value ∙ ap result_ok parsed ∙ sym (number_value bs some few all)
