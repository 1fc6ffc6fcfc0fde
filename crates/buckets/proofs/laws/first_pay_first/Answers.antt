use Rattle.buckets.proofs.Short.{holds_first, earlier_holds_first, earlier_first}
use Rattle.buckets.proofs.laws.first_pay_first.Goals as goal

pub returns-clause-holds : goal.returns-clause-holds
returns-clause-holds c = holds_first

pub returns-clause-earlier_holds : goal.returns-clause-earlier_holds
returns-clause-earlier_holds c = earlier_holds_first

pub returns-clause-earlier : goal.returns-clause-earlier
returns-clause-earlier c = earlier_first
