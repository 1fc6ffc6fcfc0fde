use Rattle.std.proofs.Common.{◌≡◌, drop}
use Rattle.sqlite.specs.Held.{state}
use Rattle.sql_rows.specs.Content.{with_grant_book, with_rows}
use Rattle.sql_rows.specs.declared.reserved_rows.ReservedColumns.{ReservedColumns}
use Rattle.sql_rows.proofs.puts.Each.{HasPut}
use Rattle.sql_keeper.proofs.migrating.put_numbers.Given as goal

abbrev pub invariant-rows : goal.invariant-rows
invariant-rows g l = record {
  same : l.tx.conn.ghost_name ≡ l.initial.tx.conn.ghost_name;
  put : HasPut (λ (x : ReservedColumns).
      with_rows x.account (with_grant_book x.session x.group 1)) l.rows (drop l.row-index l.rows)
      (state g.S.Store l.fn.tx.conn.now) (state g.S.Store l.tx.conn.now);
}
