use Rattle.wire.specs.Spelled.{answer_data}
use Rattle.wire.proofs.writing.put_answer.Goals as goal

pub returns-in-Done-clause-adds : goal.returns-in-Done-clause-adds
unfolding answer_data
returns-in-Done-clause-adds c = rw c.in-Done.is c.put_code.ensures

pub returns-in-Bucket-clause-adds : goal.returns-in-Bucket-clause-adds
unfolding answer_data
returns-in-Bucket-clause-adds c = rw c.in-Bucket.is c.put_counted.ensures

pub returns-in-Swept-clause-adds : goal.returns-in-Swept-clause-adds
unfolding answer_data
returns-in-Swept-clause-adds c = rw c.in-Swept.is c.put_counted-in-Swept.ensures
