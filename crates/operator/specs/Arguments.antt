-- Operands and options: the name by which `clap` knows each, and the line where a word isn't what it
-- takes.
-- Source: profile.
use Rattle.std.specs.Prelude.{codes}
use Rattle.clap.specs.Words.{Text}
use Rattle.operator.specs.declared.argument_names.Argument.{Argument}
use Rattle.operator.specs.declared.argument_names.Argument.TheVariants as argument

abbrev pub argument_id : Argument → Text
argument_id argument.Command = codes "COMMAND"
argument_id argument.Database = codes "DB"
argument_id argument.Book = codes "BOOK"
argument_id argument.File = codes "FILE"
argument_id argument.Account = codes "ACCOUNT"
argument_id argument.Amount = codes "AMOUNT"
argument_id argument.Blocks = codes "BLOCKS"
argument_id argument.Reference = codes "REFERENCE"
argument_id argument.Month = codes "YYYYMM"
argument_id argument.Moment = codes "MOMENT"
argument_id argument.Credit = codes "credit"
argument_id argument.Price = codes "price"
argument_id argument.Block = codes "block"
argument_id argument.Port = codes "port"
argument_id argument.Connections = codes "connections"
argument_id argument.From = codes "from"
argument_id argument.Until = codes "until"
argument_id argument.Scope = codes "scope"
argument_id argument.At = codes "at"

-- rule: exit-status
abbrev pub argument_line : Argument → Text
argument_line argument.Command = codes "ocs: a command is one that --help lists"
argument_line argument.Database = codes "ocs: DB takes a path of 1 byte or more"
argument_line argument.Book = codes "ocs: BOOK takes a path of 1 byte or more"
argument_line argument.File = codes "ocs: FILE takes a path of 1 byte or more"
argument_line argument.Account = codes "ocs: ACCOUNT takes 1 to 15 digits"
argument_line argument.Amount = codes "ocs: AMOUNT takes 1 to 1000000000000000"
argument_line argument.Blocks = codes "ocs: BLOCKS takes 1 to 1000000000"
argument_line argument.Reference = codes "ocs: REFERENCE takes 1 to 64 characters from ! to ~"
argument_line argument.Month = codes "ocs: YYYYMM takes 197001 to 209912"
argument_line argument.Moment = codes "ocs: MOMENT takes 0 to 4102444799"
argument_line argument.Credit = codes "ocs: --credit takes 1 to 1000000000000000"
argument_line argument.Price = codes "ocs: --price takes 0 to 1000000000"
argument_line argument.Block = codes "ocs: --block takes 1 to 1000000000000000"
argument_line argument.Port = codes "ocs: --port takes 1 to 65535"
argument_line argument.Connections = codes "ocs: --connections takes 1 to 1000000"
argument_line argument.From = codes "ocs: --from takes 0 to 4102444799"
argument_line argument.Until = codes "ocs: --until takes 1 to 4102444800"
argument_line argument.Scope = codes "ocs: --scope takes 0 to 4294967295"
argument_line argument.At = codes "ocs: --at takes 0 to 4102444799"
