-- Civil months as they are written: four digits of the year, two of the month.
-- Source: profile.
use Rattle.std.specs.Prelude.{ℕ, ◌&&◌, ◌==◌, ◌%◌, Bool, List, length, Option, Some, None, nat_le}
use Rattle.std.specs.Prelude.{if◌then◌else◌, option_and_then}
use Rattle.texts.specs.NumberWords.{MonthNumber}
use Rattle.texts.specs.Numbers.{number_of}

-- the number YYYYMM of a month from January 1970 to December 2099
abbrev pub is_month : ℕ → Bool
is_month n = nat_le 197001 n && nat_le n 209912 && nat_le 1 (n % 100) && nat_le (n % 100) 12

abbrev pub as_month : ℕ → Option MonthNumber
as_month n = if is_month n then Some n else None

-- six digits say it
abbrev pub month_of : List ℕ → Option MonthNumber
month_of text = if length text == 6 then option_and_then as_month (number_of text) else None
