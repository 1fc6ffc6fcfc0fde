use Rattle.http_messages.proofs.Shortest.{are_shortest}
use Rattle.http_messages.proofs.request_laws.first_parts_are_shortest.Goals as goal

pub returns : goal.returns
returns c = are_shortest
