-- What an operand or an option says, by what `clap` finds for it. A number is 1 to 16 digits
-- without a sign.
-- Source: profile.
use Rattle.std.specs.Prelude.{ℕ, ◌&&◌, nat_le, Bool, List, [], Option, Some, None, Result, Ok}
use Rattle.std.specs.Prelude.{codes, unwrap_or}
use Rattle.units.specs.Words.{Moment, GroupId, no_end, greatest_number, latest_command}
use Rattle.identifiers.specs.Texts.{is_account_number, is_reference, same_name}
use Rattle.texts.specs.Months.{month_of}
use Rattle.texts.specs.Numbers.{number_of}
use Rattle.texts.specs.NumberWords.{MonthNumber}
use Rattle.texts.specs.Steps.{◌>>=◌, collected, or_fault, where_holds}
use Rattle.clap.specs.Words.{Row, Text, all_of, first_of}
use Rattle.operator.specs.Arguments.{argument_id}
use Rattle.operator.specs.Paths.{is_file_path}
use Rattle.operator.specs.declared.argument_names.Argument.{Argument}
use Rattle.operator.specs.declared.argument_names.Argument.TheVariants as argument
use Rattle.operator.specs.declared.fault.ValueFault.{ValueFault}
use Rattle.operator.specs.declared.fault.ValueFault.TheVariants.{Invalid}

-- how many connections may be served at once
abbrev pub most_connections : ℕ
most_connections = 1_000_000

-- the word of an operand or an option
abbrev pub word : Argument → List Row → Result Text ValueFault
word argument rows = or_fault (Invalid argument) (first_of (argument_id argument) rows)

-- a number of this range
unfoldable pub number_in_text : ℕ → ℕ → Argument → Text → Result ℕ ValueFault
number_in_text low high argument text = do
  n ← or_fault (Invalid argument) (number_of text)
  where_holds (nat_le low n && nat_le n high) (Invalid argument) n

unfoldable pub number_word : ℕ → ℕ → Argument → List Row → Result ℕ ValueFault
number_word low high argument rows = do
  text ← word argument rows
  number_in_text low high argument text

-- the same, where the option is there
unfoldable pub optional_in_text : ℕ → ℕ → Argument → Option Text → Result (Option ℕ) ValueFault
optional_in_text low high argument None = Ok None
optional_in_text low high argument (Some text) = do
  n ← number_in_text low high argument text
  Ok (Some n)

abbrev pub optional_word : ℕ → ℕ → Argument → List Row → Result (Option ℕ) ValueFault
optional_word low high argument rows =
    optional_in_text low high argument (first_of (argument_id argument) rows)

-- the moment of a command that a word says
abbrev pub moment_in_text : Text → Result Moment ValueFault
moment_in_text text = number_in_text 0 latest_command argument.Moment text

-- those of all words of an operand, in their order
unfoldable pub moments_of : List Row → Result (List Moment) ValueFault
moments_of rows = do
  texts ← or_fault (Invalid argument.Moment) (all_of (argument_id argument.Moment) rows)
  collected (λ before. moment_in_text) [] texts

-- the moment of a command, where it is said
abbrev pub at_word : List Row → Result (Option Moment) ValueFault
at_word rows = optional_word 0 latest_command argument.At rows

-- until when a credit can be used, where it is said
abbrev pub until_word : List Row → Result (Option Moment) ValueFault
until_word rows = optional_word 1 no_end argument.Until rows

-- the rating group that a credit pays for, where it is said
abbrev pub scope_word : List Row → Result (Option GroupId) ValueFault
scope_word rows = optional_word 0 greatest_number argument.Scope rows

-- the rating group of an allowance, which must be said
abbrev pub group_word : List Row → Result GroupId ValueFault
group_word rows = number_word 0 greatest_number argument.Scope rows

-- the moment from which a book holds
abbrev pub from_word : List Row → Result Moment ValueFault
from_word rows = number_word 0 latest_command argument.From rows

unfoldable pub path_word : Argument → List Row → Result Text ValueFault
path_word argument rows = do
  text ← word argument rows
  where_holds (is_file_path text) (Invalid argument) text

abbrev pub database_word : List Row → Result Text ValueFault
database_word rows = path_word argument.Database rows

unfoldable pub account_word : List Row → Result Text ValueFault
account_word rows = do
  text ← word argument.Account rows
  where_holds (is_account_number text) (Invalid argument.Account) text

unfoldable pub reference_word : List Row → Result Text ValueFault
reference_word rows = do
  text ← word argument.Reference rows
  where_holds (is_reference text) (Invalid argument.Reference) text

unfoldable pub month_word : List Row → Result MonthNumber ValueFault
month_word rows = do
  text ← word argument.Month rows
  or_fault (Invalid argument.Month) (month_of text)

-- whether a flag is there
abbrev pub has_flag : Text → List Row → Bool
has_flag id rows = same_name (unwrap_or (first_of id rows) []) (codes "true")
