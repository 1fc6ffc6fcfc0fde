use Rattle.std.proofs.Common.{drop}
use Rattle.http_messages.proofs.Fitting.{IsAddedTo}
use Rattle.http_messages.proofs.routes.add_each.Given as goal

abbrev pub invariant-loop-route : goal.invariant-loop-route
invariant-loop-route l = IsAddedTo l.routes l.fn.router (drop l.route-index l.routes) l.router
