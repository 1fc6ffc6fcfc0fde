use Rattle.charging.proofs.charges.Paying.{IsPaying, paying_none, keeps_paying}
use Rattle.charging.proofs.steps.KeptHistories.{kept_history}
use Rattle.charging.proofs.laws.payment.Goals as goal

pub returns : goal.returns
returns c = λ b a list. (kept_history b (IsPaying b) (keeps_paying b) (paying_none b) a list).paid
