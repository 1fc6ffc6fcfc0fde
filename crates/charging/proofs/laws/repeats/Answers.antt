use Rattle.charging.proofs.repeating.Repeated.{answers-once}
use Rattle.charging.proofs.laws.repeats.Goals as goal

pub returns : goal.returns
returns c = answers-once
