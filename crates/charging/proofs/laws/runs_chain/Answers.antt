use Rattle.charging.proofs.runs.RunLemmas.{run_of_both}
use Rattle.charging.proofs.laws.runs_chain.Goals as goal

pub returns : goal.returns
returns c = run_of_both
