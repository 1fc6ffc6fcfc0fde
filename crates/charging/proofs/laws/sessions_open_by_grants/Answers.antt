use Rattle.charging.proofs.grants.Opened.{opened_by_grants}
use Rattle.charging.proofs.laws.sessions_open_by_grants.Goals as goal

pub returns : goal.returns
returns c = opened_by_grants
