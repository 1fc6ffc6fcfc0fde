-- A flag and a session's state that are as statements write them are read as they are.
use Rattle.std.proofs.Common.{◌≡◌, ℕ, zero, suc, Bool, true, false, ◌&&◌, refl, ap, ◌∙◌}
use Rattle.std.proofs.Common.{nat_le, arith}
use Rattle.std.specs.Prelude.{◌==◌, ◌<◌, ◌≤◌, ◌^◌, if◌then◌else◌}
use Rattle.std.proofs.lemmas.Bool.{and_parts}
use Rattle.std.proofs.lemmas.Bool.Decides.{nat_tests}
use Rattle.sqlite_value.specs.declared.value.Value.{Value}
use Rattle.reserving.specs.declared.session.SessionState.{SessionState}
use Rattle.reserving.specs.declared.session.SessionState.TheVariants.{Open, Ended, NeverOpened}
use Rattle.sql_rows.specs.Values.{nat, nat_in, flag_in, flag_number, state_in, state_number}

flag_is : (n : ℕ) → nat_le n 1 ≡ true → n ≡ flag_number (n == 1)
flag_is zero low = refl
flag_is (suc zero) low = refl
flag_is (suc (suc n)) low =
    let no' : suc (suc n) ≤ 1 = grind (arith, nat_tests, low) in absurd (omega (arith, no'))

pub flag_of : (v : Value) → v ≡ nat (nat_in v) → nat_le (nat_in v) 1 ≡ true
    → v ≡ nat (flag_number (flag_in v))
flag_of v is low = is ∙ ap nat (flag_is (nat_in v) low)

state_is : (n : ℕ) → (nat_le 1 n && nat_le n 3) ≡ true
    → n ≡ state_number (if n == 1 then Open else if n == 2 then Ended else NeverOpened)
state_is zero low = absurd (cc low)
state_is (suc zero) low = refl
state_is (suc (suc zero)) low = refl
state_is (suc (suc (suc zero))) low = refl
state_is (suc (suc (suc (suc n)))) low =
    let parts = and_parts (nat_le 1 (suc (suc (suc (suc n))))) (nat_le (suc (suc (suc (suc n)))) 3)
    low in
    let no' : suc (suc (suc (suc n))) ≤ 3 = grind (arith, nat_tests, parts.1) in
    absurd (omega (arith, no'))

pub state_of : (v : Value) → v ≡ nat (nat_in v)
    → (nat_le 1 (nat_in v) && nat_le (nat_in v) 3) ≡ true
    → v ≡ nat (state_number (state_in v))
state_of v is low = is ∙ ap nat (state_is (nat_in v) low)

-- ---- they are numbers below 2^32

pub flag_small : (b : Bool) → flag_number b < 2 ^ 32
flag_small true = omega arith
flag_small false = omega arith

pub state_small : (s : SessionState) → state_number s < 2 ^ 32
state_small Open = omega arith
state_small Ended = omega arith
state_small NeverOpened = omega arith
