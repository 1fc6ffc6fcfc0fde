use Rattle.charging.proofs.repeating.RedeemedCodes.{left_by_these, redeemed_once}
use Rattle.charging.proofs.repeating.RedeemedCodes.{redeemed_at_most_once}
use Rattle.charging.proofs.laws.codes_redeemed_once.Goals as goal

pub returns-clause-left : goal.returns-clause-left
returns-clause-left c = left_by_these

pub returns-clause-more : goal.returns-clause-more
returns-clause-more c = redeemed_once

pub returns-clause-once : goal.returns-clause-once
returns-clause-once c = redeemed_at_most_once
