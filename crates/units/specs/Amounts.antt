-- Amounts of money, as a request writes them (Unit-Value, RFC 8506 section 8.8).
use Rattle.std.specs.Prelude.{◌≡◌, ◌⊎◌, ◌^◌, ℕ, ℤ, pos, negsuc, ◌+ℤ◌, ◌*ℤ◌, ◌≤ℤ◌, ◌<ℤ◌}
use Rattle.std.specs.Prelude.{unsigned_abs, Result, IfOk, IsErrOf}
use Rattle.units.specs.Words.{most_money}
use Rattle.units.specs.declared.money.UnitFault.{UnitFault}
use Rattle.units.specs.declared.money.UnitFault.TheVariants.{Exponent, OutOfRange}

-- an exponent lies between -6 and 0
-- rule: money
pub record IsExponent (exponent : ℤ) : Type 0 where
  pub low : negsuc 5 ≤ℤ exponent
  pub high : exponent ≤ℤ pos 0

-- the digits times 10 to the exponent, counted in micro-units
-- rule: money: money from digits and an exponent
abbrev pub micros_of : ℤ → ℤ → ℤ
micros_of digits exponent = digits *ℤ pos (10 ^ unsigned_abs (exponent +ℤ pos 6))

-- digits and a power of ten are read as money: where the power is an exponent, and the micro-units
-- are in their range
pub record ReadsMoney (digits power : ℤ) (result : Result ℕ UnitFault) : Type 0 where
  pub value : IfOk result (λ m. pos m ≡ micros_of digits power)
  pub exponent : IsErrOf result Exponent → IsExponent power → ⊥
  pub exponent_told : (IsExponent power → ⊥) → IsErrOf result Exponent
  pub out_of_range : IsErrOf result OutOfRange →
      (micros_of digits power <ℤ pos 0) ⊎
      (pos most_money <ℤ micros_of digits power)
