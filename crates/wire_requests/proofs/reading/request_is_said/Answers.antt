use Rattle.wire_requests.proofs.SaidServices.{request_said}
use Rattle.wire_requests.proofs.reading.request_is_said.Goals as goal

pub returns : goal.returns
returns c = request_said
