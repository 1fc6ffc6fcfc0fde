use Rattle.charging.proofs.charges.SharesTold.{charges_are_shares, holds_are_shares}
use Rattle.charging.proofs.laws.shares_are_facts.Goals as goal

pub returns-clause-charges : goal.returns-clause-charges
returns-clause-charges c = charges_are_shares

pub returns-clause-holds : goal.returns-clause-holds
returns-clause-holds c = holds_are_shares
