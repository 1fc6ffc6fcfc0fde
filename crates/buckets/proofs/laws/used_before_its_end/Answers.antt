use Rattle.buckets.proofs.InTime.{used_in_its_time}
use Rattle.buckets.proofs.laws.used_before_its_end.Goals as goal

pub returns : goal.returns
returns c = used_in_its_time
