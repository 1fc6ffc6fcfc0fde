use Rattle.std.proofs.Common.{◌∙◌, arith}
use Rattle.sqlite.specs.Held.{state}
use Rattle.sql_rows.specs.Content.{with_rows, with_hold_row}
use Rattle.sql_rows.proofs.puts.Each.{put_all, put_at}
use Rattle.sql_rows.proofs.hold_rows.put_holds.Goals as goal

pub rows-preserved : goal.rows-preserved
rows-preserved g c = record {
  same = c.in_ok-put_hold.ensures.same_reference ∙ c.rows.invariant.same;
  put = put_at (λ x.
      with_rows c.args.account.now (with_hold_row c.args.session.now c.args.group x.bucket
      x.amount))
      c.args.rows.now c.rows.row-index _ _ _ _ c.in_ok-put_hold.field-0
      (omega arith) c.rows.invariant.put c.in_ok-put_hold.ensures.makes;
}

pub returns : goal.returns
returns g c = record {
  same_reference = c.rows.invariant.same;
  makes = put_all (λ x.
      with_rows c.args.account.now (with_hold_row c.args.session.now c.args.group x.bucket
      x.amount))
      c.args.rows.now c.rows.row-index (state g.S.Store c.args.tx.now.conn.now)
      (state g.S.Store c.rows.tx.conn.now) _ (omega arith) c.rows.invariant.put;
}
