use Rattle.voucher_rules.proofs.StandingLemmas.{spent_for_good}
use Rattle.voucher_rules.proofs.laws.spent_for_good.Goals as goal

pub returns : goal.returns
returns c = spent_for_good
