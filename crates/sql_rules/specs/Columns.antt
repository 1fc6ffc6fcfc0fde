-- What a column may hold.
-- Source: profile.
use Rattle.std.specs.Prelude.{ℕ, ◌&&◌, ◌||◌, Bool, List, nat_le, nat_lt}
use Rattle.units.specs.Words.{Micros, no_end, greatest_number, end_of_numbers, most_money}
use Rattle.units.specs.Words.{most_blocks}
use Rattle.sqlite_sql.specs.Ops.{is_null}
use Rattle.sqlite_value.specs.declared.value.Value.{Value}
use Rattle.sqlite_value.specs.Order.{Row, column}
use Rattle.sql_rows.specs.Values.{nat_in, text_in}

-- ---- the columns of a stored row: its rowid is at place 0, its first column at place 1

abbrev pub number_at : Row → ℕ → ℕ
number_at row at = nat_in (column row at)

abbrev pub text_at : Row → ℕ → List ℕ
text_at row at = text_in (column row at)

-- ---- numbers

-- from the one to the other
abbrev pub is_in_bounds : ℕ → ℕ → ℕ → Bool
is_in_bounds low high n = nat_le low n && nat_le n high

-- NULL, or a number from the one to the other
abbrev pub is_optional_within : ℕ → ℕ → Value → Bool
is_optional_within low high v = is_null v || is_in_bounds low high (nat_in v)

-- a number of 32 bits, as of a rating group
abbrev pub is_small : ℕ → Bool
is_small n = nat_le n greatest_number

-- a number of 32 bits, from 1 on, as of a bucket or a charge
abbrev pub is_numbering : ℕ → Bool
is_numbering n = is_in_bounds 1 greatest_number n

-- the next such number, which may be one more than the last
abbrev pub is_next : ℕ → Bool
is_next n = is_in_bounds 1 end_of_numbers n

-- a moment of commands: before 2100-01-01
abbrev pub is_moment : ℕ → Bool
is_moment n = nat_lt n no_end

-- an end of something that starts: after its start, and at most 2100-01-01
abbrev pub is_end : ℕ → ℕ → Bool
is_end starts ends = nat_lt starts ends && nat_le ends no_end

-- an amount of money, in micro-units
abbrev pub is_money : ℕ → Bool
is_money n = nat_le n most_money

-- an amount of money above 0
abbrev pub is_some_money : ℕ → Bool
is_some_money n = is_in_bounds 1 most_money n

-- ---- blocks

-- so many as one use may start
abbrev pub are_blocks : ℕ → Bool
are_blocks n = nat_le n most_blocks

-- and at least one
abbrev pub are_some_blocks : ℕ → Bool
are_some_blocks n = is_in_bounds 1 most_blocks n

-- what the most blocks of one use cost at the greatest price
abbrev pub most_rated : Micros
most_rated = 1_000_000_000_000_000_000

-- what one use costs, in micro-units
abbrev pub is_rated : ℕ → Bool
is_rated n = nat_le n most_rated
