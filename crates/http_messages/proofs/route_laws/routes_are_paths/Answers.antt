use Rattle.http_messages.proofs.Paths.{are_routes_paths}
use Rattle.http_messages.proofs.route_laws.routes_are_paths.Goals as goal

pub returns : goal.returns
returns c = are_routes_paths
