-- An operator's commands: the name of each, what its words say, in which ranges, and which command
-- of the charging system it is. A command more has a line of each here, and its operands in
-- `Program`.
-- Source: profile.
use Rattle.std.specs.Prelude.{◌≤◌, List, None, Result, Ok, codes}
use Rattle.units.specs.Words.{most_money, most_blocks}
use Rattle.commands.specs.declared.allowance.Allowance.{Allowance}
use Rattle.commands.specs.declared.command.Command.{Command}
use Rattle.commands.specs.declared.command.Command.TheVariants as command
use Rattle.commands.specs.declared.command.Credit.{Credit}
use Rattle.clap.specs.Words.{Row, Text}
use Rattle.texts.specs.Steps.{◌>>=◌}
use Rattle.operator.specs.Values.{account_word, group_word, number_word, reference_word, scope_word}
use Rattle.operator.specs.Values.{until_word}
use Rattle.operator.specs.declared.argument_names.Argument.TheVariants as argument
use Rattle.operator.specs.declared.fault.ValueFault.{ValueFault}
use Rattle.operator.specs.declared.office.OfficeCommand.{OfficeCommand}
use Rattle.operator.specs.declared.office.OfficeCommand.TheVariants as office
use Rattle.operator.specs.declared.office.OfficeName.{OfficeName}
use Rattle.operator.specs.declared.office.OfficeName.TheVariants as name

-- ---- names

abbrev pub office_name : OfficeName → Text
office_name name.Open = codes "open"
office_name name.Bar = codes "bar"
office_name name.Unbar = codes "unbar"
office_name name.Sweep = codes "sweep"
office_name name.Credit = codes "credit"
office_name name.Allow = codes "allow"

-- ---- what the words say

-- a credit is usable from the moment of its command on
unfoldable pub credit_said : List Row → Result Credit ValueFault
credit_said rows = do
  account ← account_word rows
  amount ← number_word 1 most_money argument.Amount rows
  reference ← reference_word rows
  until ← until_word rows
  scope ← scope_word rows
  Ok (record {
    account = account;
    amount = amount;
    from = None;
    until = until;
    scope = scope;
    reference = reference;
  })

-- so is an allowance
unfoldable pub allowance_said : List Row → Result Allowance ValueFault
allowance_said rows = do
  account ← account_word rows
  blocks ← number_word 1 most_blocks argument.Blocks rows
  reference ← reference_word rows
  until ← until_word rows
  group ← group_word rows
  Ok (record {
    account = account;
    blocks = blocks;
    from = None;
    until = until;
    scope = group;
    reference = reference;
  })

abbrev pub office_command_said : OfficeName → List Row → Result OfficeCommand ValueFault
office_command_said name.Open rows = account_word rows >>= λ a. Ok (office.Open a)
office_command_said name.Bar rows = account_word rows >>= λ a. Ok (office.Bar a)
office_command_said name.Unbar rows = account_word rows >>= λ a. Ok (office.Unbar a)
office_command_said name.Sweep rows = Ok office.Sweep
office_command_said name.Credit rows = credit_said rows >>= λ c. Ok (office.Credit c)
office_command_said name.Allow rows = allowance_said rows >>= λ a. Ok (office.Allow a)

-- a credit is of 1 micro-unit or more, an allowance of 1 to 10^9 blocks
abbrev pub IsOfficeCommandInRange : OfficeCommand → Type 0
IsOfficeCommandInRange (office.Credit credit) = 1 ≤ credit.amount
IsOfficeCommandInRange (office.Allow allowance) =
    (1 ≤ allowance.blocks) × (allowance.blocks ≤ most_blocks)
IsOfficeCommandInRange _ = Unit {0}

-- ---- what is carried out

abbrev pub command_of_office : OfficeCommand → Command
command_of_office (office.Open account) = command.OpenAccount account
command_of_office (office.Bar account) = command.Bar account
command_of_office (office.Unbar account) = command.Unbar account
command_of_office (office.Credit credit) = command.Credit credit
command_of_office (office.Allow allowance) = command.Allow allowance
command_of_office office.Sweep = command.Sweep
