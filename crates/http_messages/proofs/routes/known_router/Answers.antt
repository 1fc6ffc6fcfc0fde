use Rattle.std.proofs.Common.{subst, sym}
use Rattle.http_messages.specs.Routes.{every_route}
use Rattle.http_messages.specs.MessageParts.{AreFitting}
use Rattle.http_messages.proofs.Fitting.{all_fit}
use Rattle.http_messages.proofs.routes.known_router.Goals as goal

pub add_each-requires : goal.add_each-requires
add_each-requires c = subst (AreFitting every_route) (sym c.new-router.ensures) all_fit
