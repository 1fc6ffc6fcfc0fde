use Rattle.voucher_rules.proofs.StandingLemmas.{codes_apart}
use Rattle.voucher_rules.proofs.laws.codes_apart.Goals as goal

pub returns : goal.returns
returns c = codes_apart
