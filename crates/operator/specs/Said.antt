-- What the words of a command say, by what `clap` finds for its operands and options.
-- Source: profile.
use Rattle.std.specs.Prelude.{List, Option, Some, None, Result, Ok, Err, codes}
use Rattle.units.specs.Words.{most_money, greatest_price, most_granted, most_of_16_bits}
use Rattle.clap.specs.Words.{Row, Text}
use Rattle.texts.specs.Steps.{◌>>=◌, or_fault}
use Rattle.operator.specs.Office.{office_command_said}
use Rattle.operator.specs.Program.{command_named}
use Rattle.operator.specs.Values.{account_word, at_word, database_word, from_word, has_flag}
use Rattle.operator.specs.Values.{moments_of}
use Rattle.operator.specs.Values.{month_word, most_connections, number_word, path_word}
use Rattle.operator.specs.declared.argument_names.Argument.TheVariants as argument
use Rattle.operator.specs.declared.fault.ValueFault.{ValueFault}
use Rattle.operator.specs.declared.fault.ValueFault.TheVariants.{Invalid}
use Rattle.operator.specs.declared.office.OfficeName.{OfficeName}
use Rattle.operator.specs.declared.parsed.BookWords.{BookWords}
use Rattle.operator.specs.declared.parsed.ClockWords.{ClockWords}
use Rattle.operator.specs.declared.parsed.ImportWords.{ImportWords}
use Rattle.operator.specs.declared.parsed.InitWords.{InitWords}
use Rattle.operator.specs.declared.parsed.MigrateWords.{MigrateWords}
use Rattle.operator.specs.declared.parsed.OfficeWords.{OfficeWords}
use Rattle.operator.specs.declared.parsed.OnceWords.{OnceWords}
use Rattle.operator.specs.declared.parsed.ProgramWords.{ProgramWords}
use Rattle.operator.specs.declared.parsed.ProgramWords.TheVariants as words
use Rattle.operator.specs.declared.parsed.ReplayWords.{ReplayWords}
use Rattle.operator.specs.declared.parsed.ServeWords.{ServeWords}
use Rattle.operator.specs.declared.parsed.StatementWords.{StatementWords}
use Rattle.operator.specs.declared.program.CommandName.{CommandName}
use Rattle.operator.specs.declared.program.CommandName.TheVariants as name

unfoldable pub once_said : List Row → Result OnceWords ValueFault
once_said rows = do
  credit ← number_word 1 most_money argument.Credit rows
  price ← number_word 0 greatest_price argument.Price rows
  block ← number_word 1 most_granted argument.Block rows
  Ok (record { credit = credit; price = price; block = block })

unfoldable pub init_said : List Row → Result InitWords ValueFault
init_said rows = do
  database ← database_word rows
  book ← path_word argument.Book rows
  Ok (record { database = database; book = book })

unfoldable pub migrate_said : List Row → Result MigrateWords ValueFault
migrate_said rows = do
  database ← database_word rows
  Ok (record { database = database })

unfoldable pub book_said : List Row → Result BookWords ValueFault
book_said rows = do
  database ← database_word rows
  file ← path_word argument.File rows
  from ← from_word rows
  Ok (record { database = database; file = file; from = from })

unfoldable pub serve_said : List Row → Result ServeWords ValueFault
serve_said rows = do
  database ← database_word rows
  port ← number_word 1 most_of_16_bits argument.Port rows
  connections ← number_word 1 most_connections argument.Connections rows
  at ← at_word rows
  Ok (record { database = database; port = port; connections = connections; at = at })

unfoldable pub import_said : List Row → Result ImportWords ValueFault
import_said rows = do
  database ← database_word rows
  file ← path_word argument.File rows
  at ← at_word rows
  Ok (record { database = database; file = file; at = at })

-- an operator's command, on a database and at a moment
unfoldable pub office_said : OfficeName → List Row → Result OfficeWords ValueFault
office_said name rows = do
  database ← database_word rows
  command ← office_command_said name rows
  at ← at_word rows
  Ok (record { database = database; command = command; at = at })

unfoldable pub statement_said : List Row → Result StatementWords ValueFault
statement_said rows = do
  database ← database_word rows
  account ← account_word rows
  month ← month_word rows
  at ← at_word rows
  Ok (record {
    database = database;
    account = account;
    month = month;
    csv = has_flag (codes "csv") rows;
    at = at;
  })

unfoldable pub clock_said : List Row → Result ClockWords ValueFault
clock_said rows = do
  database ← database_word rows
  moments ← moments_of rows
  Ok (record { database = database; moments = moments })

unfoldable pub replay_said : List Row → Result ReplayWords ValueFault
replay_said rows = do
  database ← database_word rows
  file ← path_word argument.File rows
  Ok (record { database = database; file = file })

abbrev pub said_as : {A : Type 0} → (A → ProgramWords) → Result A ValueFault
    → Result ProgramWords ValueFault
said_as words said = said >>= λ x. Ok (words x)

-- what the words of a command say
-- rule: words
abbrev pub command_said : CommandName → List Row → Result ProgramWords ValueFault
command_said name.Once rows = said_as words.Once (once_said rows)
command_said name.Init rows = said_as words.Init (init_said rows)
command_said name.Migrate rows = said_as words.Migrate (migrate_said rows)
command_said name.Book rows = said_as words.Book (book_said rows)
command_said name.Serve rows = said_as words.Serve (serve_said rows)
command_said name.Import rows = said_as words.Import (import_said rows)
command_said (name.Office office) rows = said_as words.Office (office_said office rows)
command_said name.Statement rows = said_as words.Statement (statement_said rows)
command_said name.Clock rows = said_as words.Clock (clock_said rows)
command_said name.Replay rows = said_as words.Replay (replay_said rows)

-- what a line's words say, by the command that they name and what it finds
-- rule: words
abbrev pub said_by : Option (Text × List Row) → Result ProgramWords ValueFault
said_by None = Err (Invalid argument.Command)
said_by (Some (name, rows)) =
    or_fault (Invalid argument.Command) (command_named name) >>= λ command. command_said command rows
