use Rattle.std.proofs.Common.{◌∙◌, arith}
use Rattle.sql_keeper.specs.Writes.{with_charged}
use Rattle.sql_rows.proofs.puts.Each.{put_next}
use Rattle.sql_keeper.proofs.puts.NewCharges.{all_lacked, next_lacked}
use Rattle.sql_keeper.proofs.puts.Puts.{all_over}
use Rattle.sql_keeper.proofs.paid_charges.put_paid.Goals as goal

pub rows-preserved : goal.rows-preserved
rows-preserved g c = record {
  same = c.in_ok-put_charged.ensures.over.same_reference ∙ c.rows.invariant.same;
  put = put_next (with_charged c.args.account.now) c.args.rows.now c.rows.row-index
      c.row-item.result
      _ _ _ c.in_ok-put_charged.field-0 (omega arith) c.row-item.is c.rows.invariant.put
      c.in_ok-put_charged.ensures.over.makes;
  lacked = next_lacked c.args.account.now c.args.rows.now c.rows.row-index c.row-item.result
      _ _ _ c.in_ok-put_charged.field-0 (omega arith) c.row-item.is c.rows.invariant.lacked
      c.in_ok-put_charged.ensures.over.makes c.in_ok-put_charged.ensures.free;
}

pub returns-clause-over : goal.returns-clause-over
returns-clause-over g c =
    all_over c.rows.row-index c.rows.invariant.same c.rows.invariant.put (omega arith)

pub returns-clause-free : goal.returns-clause-free
returns-clause-free g c = λ clean.
    all_lacked c.args.account.now c.args.rows.now c.rows.row-index _ _ (omega arith)
    c.rows.invariant.lacked clean
