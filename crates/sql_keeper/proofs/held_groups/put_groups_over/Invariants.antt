use Rattle.std.proofs.Common.{◌≡◌, drop}
use Rattle.sqlite.specs.Held.{state}
use Rattle.sql_keeper.specs.Content.{shelf_names}
use Rattle.sql_keeper.specs.Writes.{with_group_over}
use Rattle.sql_rows.proofs.puts.Each.{HasPut}
use Rattle.sql_keeper.proofs.held_groups.put_groups_over.Given as goal

abbrev pub invariant-rows : goal.invariant-rows
invariant-rows g l = record {
  same : l.tx.conn.ghost_name ≡ l.initial.tx.conn.ghost_name;
  put : HasPut (with_group_over l.account (shelf_names l.books) l.seen) l.rows
      (drop l.row-index l.rows) (state g.S.Store l.fn.tx.conn.now) (state g.S.Store l.tx.conn.now);
}
