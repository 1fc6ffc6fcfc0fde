-- What a refund pays back.
use Rattle.std.specs.Prelude.{◌&&◌, Bool, nat_le}
use Rattle.units.specs.Words.{Micros, CurrencyNumber, most_money, greatest_currency}

-- micro-units of a currency, by its number in ISO 4217
pub record Refunded : Type 0 where
  pub micros : Micros
  pub currency : CurrencyNumber

-- 1 to 10^15 micro-units, of a currency from 0 to 999
abbrev pub is_refund : Micros → CurrencyNumber → Bool
is_refund micros currency =
    nat_le 1 micros && nat_le micros most_money && nat_le currency greatest_currency
