use Rattle.std.proofs.Common.{◌∙◌, arith}
use Rattle.sql_keeper.specs.Writes.{with_counted}
use Rattle.sql_rows.proofs.puts.Each.{put_next}
use Rattle.sql_keeper.proofs.puts.Puts.{all_over}
use Rattle.sql_keeper.proofs.counted_buckets.put_counted.Goals as goal

pub rows-preserved : goal.rows-preserved
rows-preserved g c = record {
  same = c.in_ok-put_with_kind.ensures.same_reference ∙ c.rows.invariant.same;
  put = put_next (with_counted c.args.account.now) c.args.rows.now c.rows.row-index
      c.row-item.result _ _ _ c.in_ok-put_with_kind.field-0 (omega arith) c.row-item.is
      c.rows.invariant.put c.in_ok-put_with_kind.ensures.makes;
}

pub returns : goal.returns
returns g c = all_over c.rows.row-index c.rows.invariant.same c.rows.invariant.put (omega arith)
