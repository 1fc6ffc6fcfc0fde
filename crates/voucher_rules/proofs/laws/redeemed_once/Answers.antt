use Rattle.voucher_rules.proofs.StandingLemmas.{redeemed_once}
use Rattle.voucher_rules.proofs.laws.redeemed_once.Goals as goal

pub returns : goal.returns
returns c = redeemed_once
