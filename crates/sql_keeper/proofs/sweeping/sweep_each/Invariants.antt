use Rattle.std.proofs.Common.{◌≡◌}
use Rattle.sqlite.specs.Held.{state}
use Rattle.sql_keeper.specs.Content.{shelf_names}
use Rattle.sql_keeper.proofs.sweeps.SweptInTurn.{HasSweptUpTo}
use Rattle.sql_keeper.proofs.sweeping.sweep_each.Given as goal

abbrev pub invariant-accounts : goal.invariant-accounts
invariant-accounts g l = record {
  same : l.tx.conn.ghost_name ≡ l.fn.tx.conn.ghost_name;
  swept : HasSweptUpTo (shelf_names l.names) l.text l.shelf l.moment l.last l.count
      (state g.S.Store l.fn.tx.conn.now) (state g.S.Store l.tx.conn.now);
}
