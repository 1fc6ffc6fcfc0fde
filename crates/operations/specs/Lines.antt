-- Lines of input: each has the moment of a command, one space, and a request for credit control as
-- JSON.
-- Source: profile.
use Rattle.std.specs.Prelude.{Bool, ◌==◌, ◌&&◌, length, Option, None, Result, Ok, nat_lt}
use Rattle.std.specs.Prelude.{if◌then◌else◌}
use Rattle.std.specs.List.{before_first, after_first, position_or_len}
use Rattle.std.specs.Str.{is_utf8}
use Rattle.units.specs.Words.{Moment}
use Rattle.texts.specs.StreamWords.{Bytes}
use Rattle.json_fields.specs.declared.fault.WireFault.{WireFault}
use Rattle.json_fields.specs.declared.fault.WireFault.TheVariants.{NotRequest}
use Rattle.json_fields.specs.Gives.{◌>>=◌, or_fault}
use Rattle.operator.specs.Lines.{moment_said}
use Rattle.wire.specs.Requests.{command_of}
use Rattle.charging.specs.declared.running.DatedCommand.{DatedCommand}

-- a space is found in a text
abbrev pub is_parted : Bytes → Bool
is_parted line = is_utf8 line && nat_lt (position_or_len (λ b. b == 32) line) (length line)

-- the moment before the first space
-- rule: dated-lines.line-request
abbrev pub line_moment : Bytes → Option Moment
line_moment line = if is_parted line then moment_said (before_first (λ b. b == 32) line) else None

-- what follows the first space
-- rule: dated-lines.line-request
abbrev pub line_rest : Bytes → Bytes
line_rest line = after_first (λ b. b == 32) line

-- the request of a line, or the first fault: it isn't a moment of 1 to 10 digits, a space and a
-- body; then the body's
-- rule: dated-lines.line-request: the moment and the request of a line, or its first fault
abbrev pub line_request : Bytes → Result DatedCommand WireFault
line_request line =
    or_fault NotRequest (line_moment line) >>= λ t.
    command_of (line_rest line) >>= λ c.
    Ok (record { moment = t; command = c })
