use Rattle.std.proofs.Common.{◌≡◌, drop}
use Rattle.sqlite.specs.Held.{state}
use Rattle.sql_rows.specs.Content.{with_rows, with_session_row}
use Rattle.sql_rows.proofs.puts.Each.{HasPut}
use Rattle.sql_rows.proofs.session_rows.add_sessions.Given as goal

abbrev pub invariant-rows : goal.invariant-rows
invariant-rows g l = record {
  same : l.tx.conn.ghost_name ≡ l.initial.tx.conn.ghost_name;
  put : HasPut (λ x. with_rows l.account (with_session_row x)) l.rows (drop l.row-index l.rows)
      (state g.S.Store l.fn.tx.conn.now) (state g.S.Store l.tx.conn.now);
}
