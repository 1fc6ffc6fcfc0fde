use Rattle.wire_requests.proofs.ReadIsFree.{request_free}
use Rattle.wire_requests.proofs.SaidIsRead.{request_read}
use Rattle.wire_requests.proofs.reading.request_is_read.Goals as goal

pub returns-clause-read : goal.returns-clause-read
returns-clause-read c = request_read

pub returns-clause-free : goal.returns-clause-free
returns-clause-free c = request_free
