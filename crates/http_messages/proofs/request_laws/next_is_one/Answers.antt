use Rattle.http_messages.proofs.OneNext.{next_is_one}
use Rattle.http_messages.proofs.request_laws.next_is_one.Goals as goal

pub returns : goal.returns
returns c = next_is_one
