-- The program's commands, each with its operands and options as `clap` knows them. What the words
-- of a command line are to them is clap's own statement (`subcommand_of`, `fault_of`).
-- Source: profile.
use Rattle.std.specs.Prelude.{Bool, true, false, Some, codes, List, [], ◌∷◌, Option, nat_eq}
use Rattle.std.specs.List.{find}
use Rattle.std.specs.Cmp.Lexicographic.{pointwise}
use Rattle.clap.specs.Words.{App, Rule, Text, new_app, new_rule, with_rule, with_subcommand}
use Rattle.clap.specs.declared.builder.action.ArgAction.TheVariants.{Append, Set, SetTrue}
use Rattle.operator.specs.Office.{office_name}
use Rattle.operator.specs.declared.office.OfficeName.{OfficeName}
use Rattle.operator.specs.declared.office.OfficeName.TheVariants as office
use Rattle.operator.specs.declared.program.CommandName.{CommandName}
use Rattle.operator.specs.declared.program.CommandName.TheVariants.{Once, Init, Migrate, Book}
use Rattle.operator.specs.declared.program.CommandName.TheVariants.{Serve, Import, Office}
use Rattle.operator.specs.declared.program.CommandName.TheVariants.{Statement, Clock, Replay}

-- ---- names

abbrev pub command_name : CommandName → Text
command_name Once = codes "once"
command_name Init = codes "init"
command_name Migrate = codes "migrate"
command_name Book = codes "book"
command_name Serve = codes "serve"
command_name Import = codes "import"
command_name (Office office) = office_name office
command_name Statement = codes "statement"
command_name Clock = codes "clock"
command_name Replay = codes "replay"

abbrev pub command_names : List CommandName
command_names = Once ∷ Init ∷ Migrate ∷ Book ∷ Serve ∷ Import
    ∷ Office office.Open ∷ Office office.Bar ∷ Office office.Unbar ∷ Office office.Sweep
    ∷ Office office.Credit ∷ Office office.Allow ∷ Statement ∷ Clock ∷ Replay ∷ []

-- the command of a name
abbrev pub command_named : Text → Option CommandName
command_named name = find (λ c. pointwise nat_eq (command_name c) name) command_names

-- ---- operands and options

-- a word in its place, which must be there
abbrev pub operand : Text → Rule
operand id = record (new_rule id) { required = true; action = Some Set }

-- words in the last place, one or more
abbrev pub operands : Text → Rule
operands id = record (new_rule id) { required = true; action = Some Append }

-- a word after `--id`, or joined to it by `=`, which may have to be there
abbrev pub valued : Bool → Text → Rule
valued is_needed id =
    record (new_rule id) {
      long = Some id;
      value_names = 1;
      required = is_needed;
      action = Some Set;
    }

-- an option that may be left out
abbrev pub option : Text → Rule
option id = valued false id

-- an option that must be there
abbrev pub needed : Text → Rule
needed id = valued true id

-- `--id` alone
abbrev pub flag : Text → Rule
flag id = record (new_rule id) { long = Some id; action = Some SetTrue }

-- the moment of a command
abbrev pub at : Rule
at = option (codes "at")

abbrev pub once_app : App
once_app = with_rule (with_rule (with_rule (new_app (codes "once"))
    (needed (codes "credit"))) (needed (codes "price"))) (needed (codes "block"))

abbrev pub init_app : App
init_app = with_rule (with_rule (new_app (codes "init"))
    (operand (codes "DB"))) (operand (codes "BOOK"))

abbrev pub migrate_app : App
migrate_app = with_rule (new_app (codes "migrate")) (operand (codes "DB"))

abbrev pub book_app : App
book_app = with_rule (with_rule (with_rule (new_app (codes "book"))
    (operand (codes "DB"))) (operand (codes "FILE"))) (needed (codes "from"))

abbrev pub serve_app : App
serve_app = with_rule (with_rule (with_rule (with_rule (new_app (codes "serve"))
    (operand (codes "DB"))) (needed (codes "port"))) (needed (codes "connections"))) at

abbrev pub import_app : App
import_app = with_rule (with_rule (with_rule (new_app (codes "import"))
    (operand (codes "DB"))) (operand (codes "FILE"))) at

-- a command on an account
abbrev pub account_app : Text → App
account_app name = with_rule (with_rule (with_rule (new_app name)
    (operand (codes "DB"))) (operand (codes "ACCOUNT"))) at

abbrev pub sweep_app : App
sweep_app = with_rule (with_rule (new_app (codes "sweep")) (operand (codes "DB"))) at

abbrev pub credit_operands_app : App
credit_operands_app = with_rule (with_rule (with_rule (with_rule (new_app (codes "credit"))
    (operand (codes "DB"))) (operand (codes "ACCOUNT"))) (operand (codes "AMOUNT")))
    (operand (codes "REFERENCE"))

abbrev pub credit_app : App
credit_app = with_rule (with_rule (with_rule credit_operands_app
    (option (codes "until"))) (option (codes "scope"))) at

abbrev pub allow_operands_app : App
allow_operands_app = with_rule (with_rule (with_rule (with_rule (new_app (codes "allow"))
    (operand (codes "DB"))) (operand (codes "ACCOUNT"))) (operand (codes "BLOCKS")))
    (operand (codes "REFERENCE"))

-- an allowance is of one rating group
abbrev pub allow_app : App
allow_app = with_rule (with_rule (with_rule allow_operands_app
    (option (codes "until"))) (needed (codes "scope"))) at

abbrev pub statement_app : App
statement_app = with_rule (with_rule (with_rule (with_rule (with_rule (new_app (codes "statement"))
    (operand (codes "DB"))) (operand (codes "ACCOUNT"))) (operand (codes "YYYYMM")))
    (flag (codes "csv"))) at

abbrev pub clock_app : App
clock_app = with_rule (with_rule (new_app (codes "clock"))
    (operand (codes "DB"))) (operands (codes "MOMENT"))

abbrev pub replay_app : App
replay_app = with_rule (with_rule (new_app (codes "replay"))
    (operand (codes "DB"))) (operand (codes "FILE"))

abbrev pub office_app : OfficeName → App
office_app office.Open = account_app (codes "open")
office_app office.Bar = account_app (codes "bar")
office_app office.Unbar = account_app (codes "unbar")
office_app office.Sweep = sweep_app
office_app office.Credit = credit_app
office_app office.Allow = allow_app

abbrev pub command_app : CommandName → App
command_app Once = once_app
command_app Init = init_app
command_app Migrate = migrate_app
command_app Book = book_app
command_app Serve = serve_app
command_app Import = import_app
command_app (Office office) = office_app office
command_app Statement = statement_app
command_app Clock = clock_app
command_app Replay = replay_app

-- ---- the program

-- what is printed of its version: its own, that of the tables of its databases, and the kit
-- rule: version: the version that is printed
abbrev pub version_text : Text
version_text = codes "0.2.0, tables 3, rattle-kit-13f logic dac8208d650f15bf"

-- its name and version; one of its commands must be there
abbrev pub top_app : App
top_app = let empty = new_app (codes "ocs") in
    record empty { top = record (empty.top) { has_version = true; subcommand_required = true } }

-- a program with these commands more
abbrev pub with_command_apps : List CommandName → App → App
with_command_apps [] program = program
with_command_apps (name ∷ rest) program =
    with_command_apps rest (with_subcommand program (command_app name).top)

-- rule: words: the words of the command line
abbrev pub program_app : App
program_app = with_command_apps command_names top_app
