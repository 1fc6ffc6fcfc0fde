use Rattle.charging.proofs.accounts.BalanceOrder.{balances_are_by_number}
use Rattle.charging.proofs.laws.balances_by_number.Goals as goal

pub returns : goal.returns
returns c = balances_are_by_number
