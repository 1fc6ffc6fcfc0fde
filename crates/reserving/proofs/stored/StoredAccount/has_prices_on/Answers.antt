use Rattle.reserving.specs.Inside.{stored_of}
use Rattle.reserving.proofs.kept.Placed.{rows_placed, not_placed}
use Rattle.reserving.proofs.stored.StoredAccount.has_prices_on.Goals as goal

pub returns-clause-placed : goal.returns-clause-placed
returns-clause-placed c =
    rows_placed c.args.shelf.now c.deref.result.now (stored_of c.self.inside.rows) c.args.self.now
    c.are_placed.result c.deref.ensures.value c.are_placed.ensures c.self.view_is

pub returns-clause-other : goal.returns-clause-other
returns-clause-other c =
    not_placed c.args.shelf.now c.deref.result.now (stored_of c.self.inside.rows) c.args.self.now
    c.are_placed.result c.deref.ensures.value c.are_placed.ensures c.self.view_is
