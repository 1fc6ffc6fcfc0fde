use Rattle.std.proofs.Common.{◌∙◌, arith}
use Rattle.sqlite.specs.Held.{state}
use Rattle.sql_rows.specs.Content.{with_rows, with_charge_row}
use Rattle.sql_rows.specs.Values.{plain_charge}
use Rattle.sql_rows.proofs.puts.Each.{put_all, put_next}
use Rattle.sql_rows.proofs.charge_rows.put_charges.Goals as goal

pub rows-preserved : goal.rows-preserved
rows-preserved g c = record {
  same = c.in_ok-put_charge.ensures.same_reference ∙ c.rows.invariant.same;
  put = put_next (λ x. with_rows c.args.account.now (with_charge_row (plain_charge x)))
      c.args.rows.now
      c.rows.row-index c.row-item.result _ _ _ c.in_ok-put_charge.field-0
      (omega arith) c.row-item.is c.rows.invariant.put c.in_ok-put_charge.ensures.makes;
}

pub returns : goal.returns
returns g c = record {
  same_reference = c.rows.invariant.same;
  makes = put_all (λ x. with_rows c.args.account.now (with_charge_row (plain_charge x)))
      c.args.rows.now
      c.rows.row-index (state g.S.Store c.args.tx.now.conn.now)
      (state g.S.Store c.rows.tx.conn.now) _ (omega arith) c.rows.invariant.put;
}
