-- What the program's words come to, by what `clap` says of them, and the ranges of what they say.
-- Source: profile.
use Rattle.std.specs.Prelude.{◌≡◌, ◌≢◌, ℕ, ◌≤◌, All, List, [], map, Option, IfSome, Ok, Err}
use Rattle.std.specs.Borrow.{Bor}
use Rattle.units.specs.Words.{Moment, latest_command, greatest_price, most_granted}
use Rattle.units.specs.Words.{most_of_16_bits}
use Rattle.clap.specs.Values.{kind_of}
use Rattle.clap.specs.Words.{IsAmong, Kinds, Text, fault_of, subcommand_of}
use Rattle.operator.specs.Office.{IsOfficeCommandInRange}
use Rattle.operator.specs.Program.{program_app}
use Rattle.operator.specs.Said.{said_by}
use Rattle.operator.specs.Values.{most_connections}
use Rattle.clap.specs.declared.error.Error.{Error}
use Rattle.clap.specs.declared.error.kind.ErrorKind.TheVariants.{OutOfMemory}
use Rattle.operator.specs.declared.argument_names.Argument.{Argument}
use Rattle.operator.specs.declared.fault.ValueFault.TheVariants as value
use Rattle.operator.specs.declared.fault.WordsFault.{WordsFault}
use Rattle.operator.specs.declared.fault.WordsFault.TheVariants.{Unread, Invalid, Memory}
use Rattle.operator.specs.declared.parsed.BookWords.{BookWords}
use Rattle.operator.specs.declared.parsed.ClockWords.{ClockWords}
use Rattle.operator.specs.declared.parsed.ImportWords.{ImportWords}
use Rattle.operator.specs.declared.parsed.OfficeWords.{OfficeWords}
use Rattle.operator.specs.declared.parsed.OnceWords.{OnceWords}
use Rattle.operator.specs.declared.parsed.ProgramWords.{ProgramWords}
use Rattle.operator.specs.declared.parsed.ProgramWords.TheVariants as words
use Rattle.operator.specs.declared.parsed.ServeWords.{ServeWords}
use Rattle.operator.specs.declared.parsed.StatementWords.{StatementWords}

abbrev pub texts_of : List (Bor (List ℕ)) → List Text
texts_of words = map (λ w. w.now) words

-- `clap` takes the words, and they say this
-- rule: exit-status: how the program ends, by its words
-- rule: words
pub record IsSaid (words : List Text) (said : ProgramWords) : Type 0 where
  pub taken : fault_of program_app words ≡ []
  pub means : said_by (subcommand_of program_app words) ≡ Ok said

-- `clap` takes the words, and that of this operand or option is the first that isn't what it takes
pub record IsInvalid (words : List Text) (argument : Argument) : Type 0 where
  pub taken : fault_of program_app words ≡ []
  pub means : said_by (subcommand_of program_app words) ≡ Err (value.Invalid argument)

-- an error of `clap`, of a kind that it states of the words; or one isn't what its place takes
-- rule: words
abbrev pub IsUnread : List Text → WordsFault → Type 0
IsUnread words (Unread error) = IsAmong (kind_of error) (fault_of program_app words)
IsUnread words (Invalid argument) = IsInvalid words argument
IsUnread words Memory = Unit {0}

-- the fault is this error of `clap`, or lack of memory where the error is that
abbrev pub IsFaultOfError : Error → WordsFault → Type 0
IsFaultOfError error (Unread same) = (same ≡ error) × (kind_of error ≢ OutOfMemory)
IsFaultOfError error (Invalid argument) = ⊥
IsFaultOfError error Memory = kind_of error ≡ OutOfMemory

-- an error of `clap` of one of these kinds, or lack of memory
abbrev pub IsRefused : Kinds → WordsFault → Type 0
IsRefused kinds (Unread error) = IsAmong (kind_of error) kinds
IsRefused kinds (Invalid argument) = ⊥
IsRefused kinds Memory = Unit {0}

-- ---- ranges

-- the moment of a command, where it is said
abbrev pub IsAtInRange : Option Moment → Type 0
IsAtInRange at = IfSome at (λ t. t ≤ latest_command)

-- 1 micro-unit or more, a price up to 10^9 micro-units a block, and 1 to 10^15 seconds a block
pub record IsOnceInRange (once : OnceWords) : Type 0 where
  pub some_credit : 1 ≤ once.credit
  pub price : once.price ≤ greatest_price
  pub some_block : 1 ≤ once.block
  pub block : once.block ≤ most_granted

pub record IsServeInRange (serve : ServeWords) : Type 0 where
  pub port : (1 ≤ serve.port) × (serve.port ≤ most_of_16_bits)
  pub connections : (1 ≤ serve.connections) × (serve.connections ≤ most_connections)
  pub at : IsAtInRange serve.at

-- a book holds from a moment of a command on
abbrev pub IsBookInRange : BookWords → Type 0
IsBookInRange book = book.from ≤ latest_command

abbrev pub IsImportInRange : ImportWords → Type 0
IsImportInRange import = IsAtInRange import.at

pub record IsOfficeInRange (words : OfficeWords) : Type 0 where
  pub command : IsOfficeCommandInRange words.command
  pub at : IsAtInRange words.at

abbrev pub IsStatementInRange : StatementWords → Type 0
IsStatementInRange statement = IsAtInRange statement.at

-- each moment is that of a command
abbrev pub IsClockInRange : ClockWords → Type 0
IsClockInRange clock = All (λ t. t ≤ latest_command) clock.moments

-- rule: words
abbrev pub IsInRange : ProgramWords → Type 0
IsInRange (words.Once once) = IsOnceInRange once
IsInRange (words.Book book) = IsBookInRange book
IsInRange (words.Serve serve) = IsServeInRange serve
IsInRange (words.Import import) = IsImportInRange import
IsInRange (words.Office office) = IsOfficeInRange office
IsInRange (words.Statement statement) = IsStatementInRange statement
IsInRange (words.Clock clock) = IsClockInRange clock
IsInRange _ = Unit {0}
