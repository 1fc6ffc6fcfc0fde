-- What a line is answered.
-- Source: profile.
use Rattle.std.specs.Prelude.{Option, Some, None}
use Rattle.texts.specs.StreamWords.{Bytes}
use Rattle.commands.specs.declared.answer.Answer.{Answer}
use Rattle.json_fields.specs.declared.fault.WireFault.{WireFault}
use Rattle.wire.specs.Spelled.{answer_text, fault_text}

-- its fault, or else the answer, where there is one
abbrev pub answered_line : Option WireFault → Option Answer → Option Bytes
answered_line (Some fault) answer = Some (fault_text fault)
answered_line None (Some answer) = Some (answer_text answer)
answered_line None None = None
