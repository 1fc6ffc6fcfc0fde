-- Numbers in words.
-- Source: profile.
use Rattle.std.specs.Prelude.{ℕ, ◌&&◌, List, length, Option, Some, None, nat_le, if◌then◌else◌}
use Rattle.std.specs.List.{list_all}
use Rattle.std.specs.Char.{is_ascii_digit}
use Rattle.std.specs.Str.Parse.{digits_value}

-- 1 to 16 digits say a number
-- rule: written-numbers: numbers as they are written
abbrev pub number_of : List ℕ → Option ℕ
number_of text =
    if nat_le 1 (length text) && (nat_le (length text) 16 && list_all is_ascii_digit text)
    then Some (digits_value 10 text) else None
