-- The money of a refund.
use Rattle.std.specs.Prelude.{ℕ, ◌&&◌, ℤ, pos, negsuc, unsigned_abs, int_le, Option, Some, None}
use Rattle.std.specs.Prelude.{Result, Ok, nat_le, option_and_then}
use Rattle.units.specs.Words.{Micros, most_money, greatest_currency, most_of_64_bits}
use Rattle.serde_json.specs.Data.{Data}
use Rattle.serde_json.specs.Find.{get, as_number, as_i64}
use Rattle.units.specs.Amounts.{micros_of}
use Rattle.commands.specs.declared.avp.Avp.TheVariants as avp
use Rattle.commands.specs.Names.{name_of}
use Rattle.commands.specs.Refunds.{Refunded}
use Rattle.json_fields.specs.declared.fault.WireFault.{WireFault}
use Rattle.json_fields.specs.declared.fault.WireFault.TheVariants.{Invalid}
use Rattle.json_fields.specs.Gives.{◌>>=◌, or_fault, where_holds}
use Rattle.json_fields.specs.Fields.{number_at, object_at}

abbrev pub exponent_when : Option Data → Result ℤ WireFault
exponent_when None = Ok (pos 0)
exponent_when (Some v) = do
  z ← or_fault (Invalid avp.Exponent) (option_and_then as_i64 (as_number v))
  where_holds (int_le (negsuc 5) z && int_le z (pos 0)) (Invalid avp.Exponent) z

-- Exponent, from -6 to 0; without it 0
unfoldable pub exponent_at : Data → Result ℤ WireFault
exponent_at d = exponent_when (get (name_of avp.Exponent) d)

-- the micro-units of digits and an exponent, which are 0 or more
abbrev pub micros_told : ℕ → ℤ → Micros
micros_told digits exponent = unsigned_abs (micros_of (pos digits) exponent)

-- Value-Digits before Exponent; more than 10^15 micro-units are a fault of Value-Digits
unfoldable pub money_at : Data → Result Micros WireFault
money_at d = do
  digits ← number_at avp.ValueDigits 1 most_of_64_bits d
  exponent ← exponent_at d
  let micros = micros_told digits exponent
  where_holds (nat_le micros most_money) (Invalid avp.ValueDigits) micros

-- CC-Money in the Requested-Service-Unit of the request (RFC 8506 section 8.22)
unfoldable pub refund_at : Data → Result Refunded WireFault
refund_at d = do
  r ← object_at avp.RequestedUnit d
  m ← object_at avp.Money r
  u ← object_at avp.UnitValue m
  micros ← money_at u
  currency ← number_at avp.CurrencyCode 0 greatest_currency m
  Ok (record { micros = micros; currency = currency })
