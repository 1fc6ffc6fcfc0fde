use Rattle.wire.specs.Spelled.{fault_data}
use Rattle.wire.proofs.writing.put_fault.Goals as goal

pub returns-in-NotRequest : goal.returns-in-NotRequest
unfolding fault_data
returns-in-NotRequest c = rw c.in-NotRequest.is c.put_code.ensures

pub returns-in-Memory : goal.returns-in-Memory
unfolding fault_data
returns-in-Memory c = rw c.in-Memory.is c.put_code-in-Memory.ensures
