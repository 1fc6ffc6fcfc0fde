use Rattle.voucher_rules.proofs.StandingLemmas.{standing_for_good}
use Rattle.voucher_rules.proofs.laws.standing_for_good.Goals as goal

pub returns : goal.returns
returns c = standing_for_good
