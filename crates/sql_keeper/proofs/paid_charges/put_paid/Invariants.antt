use Rattle.std.proofs.Common.{◌≡◌, drop, take}
use Rattle.sqlite.specs.Held.{state}
use Rattle.sql_keeper.specs.Writes.{with_charged}
use Rattle.sql_rows.proofs.puts.Each.{HasPut}
use Rattle.sql_keeper.proofs.puts.NewCharges.{HaveLacked}
use Rattle.sql_keeper.proofs.paid_charges.put_paid.Given as goal

abbrev pub invariant-rows : goal.invariant-rows
invariant-rows g l = record {
  same : l.tx.conn.ghost_name ≡ l.initial.tx.conn.ghost_name;
  put : HasPut (with_charged l.account) l.rows (drop l.row-index l.rows)
      (state g.S.Store l.fn.tx.conn.now) (state g.S.Store l.tx.conn.now);
  lacked : HaveLacked l.account (take l.row-index l.rows)
      (state g.S.Store l.fn.tx.conn.now) (state g.S.Store l.tx.conn.now);
}
