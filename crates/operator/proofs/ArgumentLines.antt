-- The lines of numbers say the ranges in which these are read.
use Rattle.std.proofs.Common.{◌≡◌, ℕ, ◌++◌, codes, refl}
use Rattle.std.specs.Fmt.{decimal, digits}
use Rattle.units.specs.Words.{greatest_number, greatest_price, latest_command, most_blocks}
use Rattle.units.specs.Words.{most_granted, most_money, most_of_16_bits, no_end}
use Rattle.clap.specs.Words.{Text}
use Rattle.operator.specs.Arguments.{argument_line}
use Rattle.operator.specs.Values.{most_connections}
use Rattle.operator.specs.declared.argument_names.Argument.TheVariants as argument

abbrev range_line : Text → ℕ → ℕ → Text
range_line name low high =
    codes "ocs: " ++ (name ++ (codes " takes " ++ (decimal low ++ (codes " to " ++ decimal high))))

pub credit_line : argument_line argument.Credit ≡ range_line (codes "--credit") 1 most_money
unfolding digits
credit_line = refl

pub price_line : argument_line argument.Price ≡ range_line (codes "--price") 0 greatest_price
unfolding digits
price_line = refl

pub block_line : argument_line argument.Block ≡ range_line (codes "--block") 1 most_granted
unfolding digits
block_line = refl

pub amount_line : argument_line argument.Amount ≡ range_line (codes "AMOUNT") 1 most_money
unfolding digits
amount_line = refl

pub blocks_line : argument_line argument.Blocks ≡ range_line (codes "BLOCKS") 1 most_blocks
unfolding digits
blocks_line = refl

-- rule: exit-status
pub port_line : argument_line argument.Port ≡ range_line (codes "--port") 1 most_of_16_bits
unfolding digits
port_line = refl

pub connections_line : argument_line argument.Connections ≡ range_line (codes "--connections") 1 most_connections
unfolding digits
connections_line = refl

pub from_line : argument_line argument.From ≡ range_line (codes "--from") 0 latest_command
unfolding digits
from_line = refl

pub until_line : argument_line argument.Until ≡ range_line (codes "--until") 1 no_end
unfolding digits
until_line = refl

pub scope_line : argument_line argument.Scope ≡ range_line (codes "--scope") 0 greatest_number
unfolding digits
scope_line = refl

pub moment_line : argument_line argument.Moment ≡ range_line (codes "MOMENT") 0 latest_command
unfolding digits
moment_line = refl

pub at_line : argument_line argument.At ≡ range_line (codes "--at") 0 latest_command
unfolding digits
at_line = refl
