-- What an operator's command prints: its answer as a line, a fault as one line, and a status.
-- Source: profile.
use Rattle.std.specs.Prelude.{ℕ, ◌++◌, ◌∷◌, [], codes, Option, Some, None, if◌then◌else◌}
use Rattle.std.specs.Fmt.{decimal}
use Rattle.texts.specs.StreamWords.{Bytes}
use Rattle.texts.specs.declared.streams.StreamFault.{StreamFault}
use Rattle.texts.specs.declared.streams.StreamFault.TheVariants as stream
use Rattle.commands.specs.declared.answer.Answer.{Answer}
use Rattle.keepers.specs.declared.fault.StoreFault.{StoreFault}
use Rattle.keepers.specs.Faults.{store_fault_number}
use Rattle.operations.specs.declared.fault.OfficeFault.{OfficeFault}
use Rattle.operations.specs.declared.fault.OfficeFault.TheVariants.{Store, Write}
use Rattle.operations.specs.declared.status.Status.{Status}
use Rattle.operations.specs.declared.status.Status.TheVariants.{Done, Failed, Unread}
use Rattle.wire.specs.ReadingAnswers.{is_refusal}
use Rattle.wire.specs.Spelled.{answer_text}

-- an answer with its line feed
-- rule: office-commands
abbrev pub answer_line : Answer → Bytes
answer_line given = answer_text given ++ 10 ∷ []

-- a refusal is no success
-- rule: office-commands
abbrev pub status_of : Answer → Status
status_of given = if is_refusal given then Failed else Done

abbrev pub status_number : Status → ℕ
status_number Done = 0
status_number Failed = 1
status_number Unread = 2

-- ---- the lines of faults, without their line feeds

-- what a fault is reported by: what failed, and its number where it has one
pub record FaultWords : Type 0 where
  pub line : Bytes
  pub number : Option ℕ

abbrev pub number_told : Option ℕ → Bytes
number_told None = []
number_told (Some n) = 32 ∷ decimal n

-- the record of a file that a fault is at
abbrev pub place_told : Option ℕ → Bytes
place_told None = []
place_told (Some n) = codes " at record " ++ decimal n

-- the line: `ocs: file fault`, `ocs: store fault 1`
-- rule: office-commands
abbrev pub told_line : FaultWords → Bytes
told_line w = w.line ++ number_told w.number

abbrev pub plain_words : Bytes → FaultWords
plain_words line = record { line = line; number = None }

abbrev pub numbered_words : Bytes → ℕ → FaultWords
numbered_words line n = record { line = line; number = Some n }

abbrev pub store_line : Bytes
store_line = codes "ocs: store fault"

abbrev pub about_store : StoreFault → FaultWords
about_store fault = numbered_words store_line (store_fault_number fault)

abbrev pub stream_line : StreamFault → Bytes
stream_line stream.Memory = codes "ocs: memory fault"
stream_line stream.Read = codes "ocs: file fault"
stream_line stream.Write = codes "ocs: file fault"

abbrev pub about_stream : StreamFault → FaultWords
about_stream fault = plain_words (stream_line fault)

-- rule: office-commands
abbrev pub about_office : OfficeFault → FaultWords
about_office (Store fault) = about_store fault
about_office (Write fault) = about_stream fault
