use Rattle.charging.proofs.grants.Guaranteed.{IsGuaranteed, guaranteed_none, keeps_guaranteed}
use Rattle.charging.proofs.steps.KeptHistories.{kept_history}
use Rattle.charging.proofs.laws.quota.Goals as goal

pub returns : goal.returns
returns c = λ b is a list.
    (kept_history b (IsGuaranteed b) (keeps_guaranteed b is) (guaranteed_none b) a list).quotas
