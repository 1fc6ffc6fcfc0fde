-- The lines of a stream as they are kept: what each is answered, and the requests among them.
-- Source: profile.
use Rattle.std.specs.Prelude.{◌≡◌, List, map, Option, Some, None, Result}
use Rattle.json_fields.specs.declared.fault.WireFault.{WireFault}
use Rattle.json_fields.specs.declared.fault.WireFault.TheVariants as wire
use Rattle.charging.specs.declared.running.DatedCommand.{DatedCommand}
use Rattle.operations.specs.declared.line_input.Input.{Input}
use Rattle.operations.specs.declared.line_input.Line.{Line}
use Rattle.operations.specs.declared.line_input.Line.TheVariants.{Request, Fault}
use Rattle.operations.specs.declared.line_input.LineFault.{LineFault}
use Rattle.operations.specs.declared.line_input.LineFault.TheVariants.{NotRequest, Missing, Invalid}
use Rattle.operations.specs.LinesServed.{requests_of, fault_of}

-- a line's fault among those of reading
abbrev pub wire_fault : LineFault → WireFault
wire_fault NotRequest = wire.NotRequest
wire_fault (Missing avp) = wire.Missing avp
wire_fault (Invalid avp) = wire.Invalid avp

-- the fault that a line is answered
abbrev pub kept_fault : Line → Option WireFault
kept_fault Request = None
kept_fault (Fault fault) = Some (wire_fault fault)

-- the input is that of lines that were read so
pub record IsInput (read : List (Result DatedCommand WireFault)) (input : Input) : Type 0 where
  pub requests : input.requests.items ≡ requests_of read
  pub lines : map kept_fault input.lines.items ≡ map fault_of read
