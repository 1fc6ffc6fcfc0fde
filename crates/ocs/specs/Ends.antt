-- How the program ends, by what its words say.
-- Source: profile.
use Rattle.std.specs.Prelude.{◌≡◌, ◌⊎◌, Bool, true, false, List, Option, IfSome}
use Rattle.std.specs.Io.KnownBytes.{Appends}
use Rattle.texts.specs.StreamWords.{Bytes}
use Rattle.clap.specs.Values.{kind_of}
use Rattle.clap.specs.Words.{IsAmong, Text, fault_of}
use Rattle.clap.specs.declared.error.kind.ErrorKind.{ErrorKind}
use Rattle.clap.specs.declared.error.kind.ErrorKind.TheVariants.{DisplayHelp, DisplayVersion}
use Rattle.operations.specs.Months.{unknown_line}
use Rattle.operations.specs.Counts.{PrintsCounts}
use Rattle.operations.specs.Printed.{PrintsAnswer}
use Rattle.operations.specs.declared.status.Status.{Status}
use Rattle.operations.specs.declared.status.Status.TheVariants.{Done, Failed, Unread}
use Rattle.service.specs.CivilClock.{BeginsClock, PrintsClock}
use Rattle.service.specs.Stating.{BeginsMonthOf, PrintsMonthOf}
use Rattle.operator.specs.Program.{program_app}
use Rattle.operator.specs.Read.{IsInvalid, IsSaid}
use Rattle.operator.specs.declared.argument_names.Argument.{Argument}
use Rattle.operator.specs.declared.fault.WordsFault.{WordsFault}
use Rattle.operator.specs.declared.fault.WordsFault.TheVariants as fault
use Rattle.operator.specs.declared.parsed.OnceWords.{OnceWords}
use Rattle.operator.specs.declared.parsed.ProgramWords.{ProgramWords}
use Rattle.operator.specs.declared.parsed.ProgramWords.TheVariants as words
use Rattle.operations.specs.LinesServed.{BeginsLines, TellsLines}

-- ---- what words say

-- this is so of the words of `once`
abbrev pub IfOnce : ProgramWords → (OnceWords → Type 0) → Type 0
IfOnce (words.Once once) says = says once
IfOnce _ says = Unit {0}

-- a refusal of it is printed: of an operator's command, or that the account of a statement isn't
-- there; no other is refused
-- rule: exit-status
abbrev pub PrintsRefusal : ProgramWords → Option Bytes → Option Bytes → Type 0
PrintsRefusal (words.Office office) old new = PrintsAnswer Failed old new
PrintsRefusal (words.Statement statement) old new = Appends old new unknown_line
PrintsRefusal _ old new = ⊥

-- the lines of some file are answered, where it shows its bytes
-- rule: exit-status
pub record PrintsLines {File : Type 0} (bytes : File → Option Bytes) (old new : Option Bytes)
    : Type 0 where
  pub file : File
  pub told : IfSome (bytes file) (TellsLines old new)

-- a beginning of that is
pub record BeginsSomeLines {File : Type 0} (bytes : File → Option Bytes) (old new : Option Bytes)
    : Type 0 where
  pub file : File
  pub begun : IfSome (bytes file) (BeginsLines old new)

-- or nothing is written
abbrev pub BeginsLinesOf : {File : Type 0} → (File → Option Bytes) → Option Bytes →
    Option Bytes → Type 0
BeginsLinesOf bytes old new = BeginsSomeLines bytes old new ⊎ (new ≡ old)

-- an import has printed its counts; an operator's command its answer, and a statement the month
-- that is asked for or that there is no such account, with which they end so; a clock the lines of
-- its moments; a replay what the lines of a file are answered, by the bytes that files show
-- rule: exit-status
abbrev pub HasPrinted : {File : Type 0} → (File → Option Bytes) → ProgramWords → Option Bytes →
    Option Bytes → Status → Type 0
HasPrinted bytes (words.Import import) old new status = PrintsCounts old new
HasPrinted bytes (words.Office office) old new status = PrintsAnswer status old new
HasPrinted bytes (words.Statement statement) old new status =
    PrintsMonthOf statement old new status
HasPrinted bytes (words.Clock clock) old new status = PrintsClock clock old new
HasPrinted bytes (words.Replay replay) old new status = PrintsLines bytes old new
HasPrinted bytes _ old new status = Unit {0}

-- a statement, a clock or a replay has printed a beginning of that, or of the line that it is
-- refused by
-- rule: exit-status
abbrev pub HasBegun : {File : Type 0} → (File → Option Bytes) → ProgramWords → Option Bytes →
    Option Bytes → Type 0
HasBegun bytes (words.Statement statement) old new = BeginsMonthOf statement old new
HasBegun bytes (words.Clock clock) old new = BeginsClock clock old new
HasBegun bytes (words.Replay replay) old new = BeginsLinesOf bytes old new
HasBegun bytes _ old new = Unit {0}

-- the words say something that is so
pub record SaysSo (texts : List Text) (Is : ProgramWords → Type 0) : Type 0 where
  pub said : ProgramWords
  pub says : IsSaid texts said
  pub is : Is said

-- the words say a command
pub record SaysCommand (texts : List Text) : Type 0 where
  pub said : ProgramWords
  pub says : IsSaid texts said

-- ---- words that aren't read

-- an error of this kind is a text that the words ask for
abbrev pub is_text : ErrorKind → Bool
is_text DisplayHelp = true
is_text DisplayVersion = true
is_text _ = false

-- `clap` finds an error in the words, of a kind that is a text that they ask for, or a mistake
pub record HasError (texts : List Text) (text : Bool) : Type 0 where
  pub kind : ErrorKind
  pub among : IsAmong kind (fault_of program_app texts)
  pub is : is_text kind ≡ text

-- done where the words say a command, or ask for a text; unread where there is a mistake in them
-- rule: exit-status
abbrev pub IsEnd : List Text → Status → Type 0
IsEnd texts Done = SaysCommand texts ⊎ HasError texts true
IsEnd texts Failed = Unit {0}
IsEnd texts Unread = ((argument : Argument) × IsInvalid texts argument) ⊎ HasError texts false

-- ---- the same by the fault of the words

abbrev pub IsEndOfKind : ErrorKind → Status → Type 0
IsEndOfKind kind Done = is_text kind ≡ true
IsEndOfKind kind Failed = Unit {0}
IsEndOfKind kind Unread = is_text kind ≡ false

abbrev pub IsEndOf : WordsFault → Status → Type 0
IsEndOf (fault.Unread error) status = IsEndOfKind (kind_of error) status
IsEndOf (fault.Invalid argument) Done = ⊥
IsEndOf (fault.Invalid argument) Failed = ⊥
IsEndOf (fault.Invalid argument) Unread = Unit {0}
IsEndOf fault.Memory Done = ⊥
IsEndOf fault.Memory Failed = Unit {0}
IsEndOf fault.Memory Unread = ⊥

abbrev pub IsMemory : WordsFault → Type 0
IsMemory (fault.Unread error) = ⊥
IsMemory (fault.Invalid argument) = ⊥
IsMemory fault.Memory = Unit {0}

-- ---- the same where the words say a command

abbrev pub IsEndBy : Status → Type 0
IsEndBy Done = Unit {0}
IsEndBy Failed = Unit {0}
IsEndBy Unread = ⊥
