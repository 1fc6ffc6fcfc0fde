use Rattle.sql_keeper.specs.Inside.{tables_in}
use Rattle.sql_keeper.specs.Stops.{as_seen}
use Rattle.sql_keeper.proofs.loads.LiveRows.{viewed}
use Rattle.sql_keeper.proofs.keeper.SqlKeeper.view.Goals as goal

pub returns : goal.returns
returns g c = record {
  reads = viewed (as_seen g.S.Store c.args.self.now) (as_seen g.S.Store c.load-loaded.new.self)
      c.args.shelf.now c.args.moment c.args.account.now
      ((tables_in g.S.Store c.args.self.now).rows c.args.account.now) c.load-loaded.result
      c.account_of.result c.account_of.ensures c.load-loaded.ensures.reads;
  whole = c.load-loaded.ensures.whole;
}
