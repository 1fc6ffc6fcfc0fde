-- Digits alone write the whole number that a numeral with neither a point nor an exponent is.
use Rattle.std.proofs.Common.{◌≡◌, ◌<◌, ◌^◌, ℕ, List, [], ◌∷◌, ◌++◌, length, get_or, Some, true, false}
use Rattle.std.proofs.Common.{◌+◌, ◌-◌, ◌*◌, ◌≤◌, eqb, take, refl, sym, ap, subst, ◌∙◌, arith}
use Rattle.std.proofs.lemmas.Bool.{ne_eqb, lt-ltb}
use Rattle.std.proofs.lemmas.Int.Digits.{digits_more, digits_value_more, digits_value-lt}
use Rattle.std.proofs.lemmas.List.{append-nil, take_all, length-take-le}
use Rattle.std.proofs.lemmas.Str.{digit_value_digit}
use Rattle.std.proofs.lemmas.Str.Parse.{digit_from_value, tells_all_ascii_digits}
use Rattle.std.proofs.Math.Nat.{pow-le-pow_right}
use Rattle.std.specs.Char.{digit_value, is_ascii_digit}
use Rattle.std.proofs.lemmas.Float.Parse.{scan_numeral-text_of}
use Rattle.std.specs.Float.Numeral.{Parts, IsWellFormed, scan_numeral}
use Rattle.std.specs.Str.Parse.{AllDigits, IsNumeral, digits_value}
use Rattle.serde_json.specs.Data.{unsigned}
use Rattle.serde_json.specs.Read.{number_of, number_from}

-- the parts of a numeral that is digits alone
abbrev digit_parts : List ℕ → Parts
digit_parts ds = record {
  whole = ds;
  point = false;
  fraction = [];
  exponent_negative = false;
  exponent = [];
  len = length ds;
}

are_parts : (ds : List ℕ) → AllDigits 10 ds → IsWellFormed (digit_parts ds)
are_parts ds all = record {
  whole_digits = all;
  fraction_digits = tt;
  exponent_digits = tt;
  no_point = λ _. refl;
  no_exponent = λ _. refl;
  len_is = ap length (sym (append-nil ds));
}

scanned : (ds : List ℕ) → AllDigits 10 ds → scan_numeral ds ≡ digit_parts ds
scanned ds all =
    ap scan_numeral (sym (append-nil ds)) ∙ scan_numeral-text_of (digit_parts ds) (are_parts ds all)

no_minus : (ds : List ℕ) → AllDigits 10 ds → eqb (get_or ds 0 0) 45 ≡ false
no_minus [] all = refl
no_minus (d ∷ ds) all =
    let range = digit_from_value d all.0 in ne_eqb d 45 (λ e. absurd (omega (arith, range.0, e)))

whole : (ds : List ℕ) → 0 < length ds → digits_value 10 ds < 2 ^ 64 →
    number_from false (digit_parts ds) ≡ Some (unsigned (digits_value 10 ds))
whole ds some fits =
    let same : digits_value 10 (ds ++ []) ≡ digits_value 10 ds =
    ap (digits_value 10) (append-nil ds) in
    rw (same, lt-ltb 0 (length ds) some, lt-ltb (digits_value 10 ds) (2 ^ 64) fits)

number_is : (ds : List ℕ) → IsNumeral 10 ds → digits_value 10 ds < 2 ^ 64 →
    number_of ds ≡ Some (unsigned (digits_value 10 ds))
unfolding number_of
number_is ds numeral fits =
    let read : number_from false (scan_numeral ds) ≡ number_of ds = rw (no_minus ds numeral.1) in
    sym read ∙ ap (number_from false) (scanned ds numeral.1) ∙ whole ds numeral.0 fits

-- n is what the first i bytes write, which are digits
abbrev pub IsSoFar : List ℕ → ℕ → ℕ → Type 0
IsSoFar bs i n = AllDigits 10 (take i bs) × (n ≡ digits_value 10 (take i bs))

below : (ds : List ℕ) (k : ℕ) → AllDigits 10 ds → length ds ≤ k → digits_value 10 ds < 10 ^ k
below ds k all few =
    omega (arith, digits_value-lt 10 ds all, pow-le-pow_right {n = 10} (omega arith) few)

-- one digit more
pub one_more : (bs : List ℕ) (i n b : ℕ) → i < length bs → b ≡ get_or bs i 0 → 48 ≤ b → b ≤ 57 →
    IsSoFar bs i n → IsSoFar bs (i + 1) (n * 10 + (b - 48))
one_more bs i n b inside at low high so_far =
    let value : b - 48 ≡ digit_value b = omega (arith, digit_value_digit b (low, high)) in
    let small : digit_value b < 10 = omega (arith, value, high) in (
      digits_more 10 bs i inside so_far.0 (rw (← at) small),
      ap (λ m. n * 10 + m) value ∙ ap (λ m. m * 10 + digit_value b) so_far.1
          ∙ ap (λ c. digits_value 10 (take i bs) * 10 + digit_value c) at
          ∙ sym (digits_value_more 10 bs i inside),
    )

pub digit_within : (b : ℕ) → is_ascii_digit b ≡ true → (48 ≤ b) × (b ≤ 57)
digit_within b e = (tells_all_ascii_digits.parts b [] (rw e refl)).0

pub few_so_far : (bs : List ℕ) (i n : ℕ) → i ≤ 17 → i ≤ length bs → IsSoFar bs i n → n < 10 ^ 17
few_so_far bs i n few inside so_far =
    let long : length (take i bs) ≤ 17 = omega (arith, length-take-le i bs inside) in
    omega (arith, so_far.1, below (take i bs) 17 so_far.0 long)

-- what all bytes write is their number
-- rule: json-members
pub number_so_far : (bs : List ℕ) (i n : ℕ) → 0 < length bs → length bs ≤ 18 → length bs ≤ i →
    IsSoFar bs i n → number_of bs ≡ Some (unsigned n)
number_so_far bs i n some few end so_far =
    let whole : take i bs ≡ bs = take_all i bs end in
    let all : AllDigits 10 bs = subst (AllDigits 10) whole so_far.0 in
    let small : digits_value 10 bs < 2 ^ 64 = omega (arith, below bs 18 all few) in
    let is : n ≡ digits_value 10 bs = so_far.1 ∙ ap (digits_value 10) whole in
    number_is bs (some, all) small ∙ ap (λ m. Some (unsigned m)) (sym is)
