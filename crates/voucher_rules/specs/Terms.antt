-- What a voucher says beside its code.
-- Source: profile.
use Rattle.std.specs.Prelude.{◌&&◌, Bool, true, Option, Some, None, nat_le}
use Rattle.units.specs.Words.{DayCount, Micros, GroupId, most_money, most_days}

-- micro-units of the book's currency; the days that the bucket lasts, none without an end; the
-- rating group that it pays for, none for all
pub record Terms : Type 0 where
  pub amount : Micros
  pub days : Option DayCount
  pub scope : Option GroupId

-- 1 to 3,650 days, or none
-- rule: voucher-terms
abbrev pub are_days : Option DayCount → Bool
are_days None = true
are_days (Some days) = nat_le 1 days && nat_le days most_days

-- 1 to 10^15 micro-units, and such days; any rating group is a scope
-- rule: voucher-terms: amount, days and scope of a voucher
abbrev pub are_terms : Micros → Option DayCount → Bool
are_terms amount days = nat_le 1 amount && nat_le amount most_money && are_days days
