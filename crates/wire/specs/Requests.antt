-- A request for credit control as a command.
use Rattle.std.specs.Prelude.{ℕ, List, Result, Ok}
use Rattle.commands.specs.declared.command.Command.{Command}
use Rattle.commands.specs.declared.command.Command.TheVariants.{Ccr}
use Rattle.json_fields.specs.declared.fault.WireFault.{WireFault}
use Rattle.json_fields.specs.Gives.{◌>>=◌}
use Rattle.wire_requests.specs.Reading.{request_of}

-- the command that the bytes are, or the first fault of the request
abbrev pub command_of : List ℕ → Result Command WireFault
command_of bytes = request_of bytes >>= λ r. Ok (Ccr r)
