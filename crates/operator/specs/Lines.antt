-- Lines of dated requests: a moment, one space, and the request's text.
-- Source: profile.
use Rattle.std.specs.Prelude.{◌≡◌, ℕ, ◌<◌, ◌==◌, List, length, Option, Some, None, nat_le, nat_lt}
use Rattle.std.specs.Prelude.{if◌then◌else◌, option_and_then}
use Rattle.std.specs.List.{before_first, after_first, position_or_len}
use Rattle.units.specs.Words.{Moment, no_end}
use Rattle.texts.specs.Numbers.{number_of}
use Rattle.operator.specs.declared.dated.DatedLine.{DatedLine}

-- a moment of a command
abbrev pub as_command : Moment → Option Moment
as_command seconds = if nat_lt seconds no_end then Some seconds else None

-- 1 to 10 digits say it
abbrev pub moment_said : List ℕ → Option Moment
moment_said digits =
    if nat_le (length digits) 10 then option_and_then as_command (number_of digits) else None

-- the line is read as its moment and what follows the first space; or it isn't a dated line
-- rule: dated-lines: a dated line
-- rule: written-numbers
abbrev pub IsDated : List ℕ → Option DatedLine → Type 0
IsDated line (Some d) = (position_or_len (λ b. b == 32) line < length line)
    × (moment_said (before_first (λ b. b == 32) line) ≡ Some d.moment)
    × (d.body.now ≡ after_first (λ b. b == 32) line)
IsDated line None = position_or_len (λ b. b == 32) line < length line →
    moment_said (before_first (λ b. b == 32) line) ≡ None
