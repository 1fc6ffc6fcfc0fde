use Rattle.buckets.proofs.Added.{added_alone, added_in_order}
use Rattle.buckets.proofs.laws.adds_one_bucket.Goals as goal

pub returns-clause-alone : goal.returns-clause-alone
returns-clause-alone c = added_alone

pub returns-clause-order : goal.returns-clause-order
returns-clause-order c = added_in_order
