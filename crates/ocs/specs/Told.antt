-- What the program reports on standard error.
-- Source: profile.
use Rattle.std.specs.Prelude.{◌≡◌, ◌≤◌, ◌⊎◌, ◌++◌, ◌∷◌, ℕ, List, [], Option, Some, None, codes}
use Rattle.std.specs.Fmt.{decimal}
use Rattle.std.specs.Io.KnownBytes.{Keeps}
use Rattle.texts.specs.StreamWords.{Bytes}
use Rattle.texts.specs.declared.streams.StreamFault.{StreamFault}
use Rattle.clap.specs.Words.{Text}
use Rattle.sql_tables.specs.Schema.{latest}
use Rattle.operations.specs.Told.{FaultWords, about_stream, numbered_words, place_told, told_line}
use Rattle.operations.specs.Written.{WritesBeginning}
use Rattle.operations.specs.declared.status.Status.{Status}
use Rattle.operations.specs.declared.status.Status.TheVariants.{Done, Failed, Unread}
use Rattle.operator.specs.Arguments.{argument_line}
use Rattle.operator.specs.Read.{IsInvalid, IsSaid}
use Rattle.operator.specs.declared.argument_names.Argument.{Argument}
use Rattle.operator.specs.declared.fault.WordsFault.{WordsFault}
use Rattle.operator.specs.declared.fault.WordsFault.TheVariants as fault
use Rattle.operator.specs.declared.parsed.ProgramWords.{ProgramWords}
use Rattle.operator.specs.declared.parsed.ProgramWords.TheVariants as words
use Rattle.operator.specs.declared.parsed.ServeWords.{ServeWords}
use Rattle.service.specs.Opening.{IsUnanswered, IsUnasked}
use Rattle.service.specs.Told.{about_database}
use Rattle.service.specs.declared.fault.DatabaseFault.{DatabaseFault}
use Rattle.service.specs.ServingTold.{IsUnlistened, TellsFaults, listening_line}
use Rattle.operations.specs.LinesFaults.{AreUnread, about_lines}
use Rattle.vouchers.specs.Faults.{voucher_fault_number}
use Rattle.ocs.specs.Ends.{PrintsRefusal, SaysSo}
use Rattle.ocs.specs.Faults.{IsFaultIn, IsFaultOf, IsMemoryFault, IsWriteFault}
use Rattle.operations.specs.declared.lines_fault.LinesFault.{LinesFault}
use Rattle.ocs.specs.declared.fault.ProgramFault.{ProgramFault}
use Rattle.ocs.specs.declared.fault.ProgramFault.TheVariants as program

-- ---- lines, without their line feeds

-- what a fault is reported by: what failed, and its number where it has one
abbrev pub about_fault : ProgramFault → FaultWords
about_fault (program.Lines fault) = about_lines fault
about_fault (program.Stream fault) = about_stream fault
about_fault (program.Database fault) = about_database fault
about_fault (program.Vouchers fault) =
    numbered_words (codes "ocs: voucher fault") (voucher_fault_number fault.kind)

-- the record that one of a file of vouchers is at
abbrev pub fault_place : ProgramFault → Option ℕ
fault_place (program.Vouchers fault) = Some fault.record_number
fault_place _ = None

abbrev pub fault_line : ProgramFault → Bytes
fault_line fault = told_line (about_fault fault) ++ place_told (fault_place fault)

-- ---- what is printed

-- the tables are of the latest version
abbrev pub version_line : Bytes
version_line = codes "version " ++ (decimal latest ++ codes "\n")

-- the line of words that print one alone
abbrev pub done_line : ProgramWords → Option Bytes
done_line (words.Init init) = Some (codes "ok\n")
done_line (words.Migrate migrate) = Some version_line
done_line (words.Book book) = Some (codes "ok\n")
done_line (words.Serve serve) = Some (listening_line serve.port)
done_line _ = None

-- ---- what isn't printed

-- this is so of a fault of lines
abbrev pub IfLines : ProgramFault → (LinesFault → Type 0) → Type 0
IfLines (program.Lines fault) says = says fault
IfLines _ says = Unit {0}

-- of a stream's
abbrev pub IfStream : ProgramFault → (StreamFault → Type 0) → Type 0
IfStream (program.Stream fault) says = says fault
IfStream _ says = Unit {0}

-- of a database's
abbrev pub IfDatabase : ProgramFault → (DatabaseFault → Type 0) → Type 0
IfDatabase (program.Database fault) says = says fault
IfDatabase _ says = Unit {0}

-- nothing is printed before this fault: of `once` and `replay` the lines weren't read, of `init`,
-- `migrate` and `book` the database isn't made or changed, of `serve` the port isn't listened to,
-- of a statement and a clock the office isn't asked, of others there is no answer; so it is of each fault that
-- the words don't come to
abbrev pub IsSilent : ProgramWords → ProgramFault → Type 0
IsSilent (words.Once once) fault = IfLines fault AreUnread
IsSilent (words.Serve serve) fault = IfDatabase fault IsUnlistened
IsSilent (words.Import import) fault = IfDatabase fault IsUnanswered
IsSilent (words.Office office) fault = IfDatabase fault IsUnanswered
IsSilent (words.Statement statement) fault = IfDatabase fault IsUnasked
IsSilent (words.Clock clock) fault = IfDatabase fault IsUnasked
IsSilent (words.Replay replay) fault = IfLines fault AreUnread
IsSilent _ fault = IfStream fault (λ _. ⊥)

-- then the output is as it was
abbrev pub LeavesOutput : ProgramWords → Option Bytes → Option Bytes → ProgramFault → Type 0
LeavesOutput said before after fault = IsSilent said fault → after ≡ before

-- ---- what is reported

-- a fault of which this is so is reported by its line, as far as it can be written
pub record ReportsFault (Reached Silent : ProgramFault → Type 0) (old new : Option Bytes)
    : Type 0 where
  pub fault : ProgramFault
  pub reached : Reached fault
  pub silent : Silent fault
  pub written : WritesBeginning old new (fault_line fault ++ 10 ∷ [])

-- connections were served: the faults of some of them, each by its line
pub record ConnectionsTold (connections : ℕ) (old new : Option Bytes) : Type 0 where
  pub failed : ℕ
  pub few : failed ≤ connections
  pub told : TellsFaults failed old new

-- so it is where the words say `serve`
pub record ReportsConnections (texts : List Text) (old new : Option Bytes) : Type 0 where
  pub serve : ServeWords
  pub says : IsSaid texts (words.Serve serve)
  pub told : ConnectionsTold serve.connections old new

-- nothing where all is done, but faults of connections that were served, or where an operator's
-- command or a statement is refused, which is printed; a fault by its line, which leaves the output
-- as it was where the words print nothing before it; of words that aren't read the text is
-- `clap`'s, and where `clap` takes them the line of the first operand or option whose word isn't
-- what it takes
-- rule: exit-status
abbrev pub IsTold : List Text → Option Bytes → Option Bytes → Status → Option Bytes → Option Bytes →
    Type 0
IsTold texts before after Done old new = Keeps old new ⊎ ReportsConnections texts old new
IsTold texts before after Failed old new =
    ReportsFault (IsFaultIn texts)
    (λ fault. (said : ProgramWords) → IsSaid texts said → LeavesOutput said before after fault)
    old new ⊎ (SaysSo texts (λ said. PrintsRefusal said before after) × Keeps old new)
IsTold texts before after Unread old new = (argument : Argument) → IsInvalid texts argument →
    WritesBeginning old new (argument_line argument ++ 10 ∷ [])

-- ---- the same by the fault of the words

abbrev pub IsTextTold : Status → Option Bytes → Option Bytes → Type 0
IsTextTold Done old new = Keeps old new
IsTextTold Failed old new =
    ReportsFault (λ fault. IsMemoryFault fault ⊎ IsWriteFault fault) (λ _. Unit {0}) old new
IsTextTold Unread old new = Unit {0}

abbrev pub IsToldOf : WordsFault → Status → Option Bytes → Option Bytes → Type 0
IsToldOf (fault.Unread error) status old new = IsTextTold status old new
IsToldOf (fault.Invalid argument) status old new =
    WritesBeginning old new (argument_line argument ++ 10 ∷ [])
IsToldOf fault.Memory status old new = ReportsFault IsMemoryFault (λ _. Unit {0}) old new

-- ---- the same by what the words say

-- what is printed of what ends well, or is refused
abbrev pub IsToldAtEnd : ProgramWords → Option Bytes → Option Bytes → Type 0
IsToldAtEnd (words.Serve serve) old new = ConnectionsTold serve.connections old new
IsToldAtEnd _ old new = new ≡ old

abbrev pub IsToldBy : ProgramWords → Option Bytes → Option Bytes → Status → Option Bytes →
    Option Bytes → Type 0
IsToldBy said before after Done old new = IsToldAtEnd said old new
IsToldBy said before after Failed old new =
    ReportsFault (IsFaultOf said) (LeavesOutput said before after) old new
    ⊎ (PrintsRefusal said before after × Keeps old new)
IsToldBy said before after Unread old new = ⊥
