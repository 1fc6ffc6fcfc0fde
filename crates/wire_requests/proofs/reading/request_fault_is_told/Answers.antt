use Rattle.wire_requests.proofs.Told.{faults_are_told}
use Rattle.wire_requests.proofs.reading.request_fault_is_told.Goals as goal

pub returns : goal.returns
returns c = faults_are_told
