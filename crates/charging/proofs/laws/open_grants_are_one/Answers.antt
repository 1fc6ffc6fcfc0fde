use Rattle.charging.proofs.grants.OpenGrants.{grants_are_one}
use Rattle.charging.proofs.laws.open_grants_are_one.Goals as goal

pub returns : goal.returns
returns c = grants_are_one
