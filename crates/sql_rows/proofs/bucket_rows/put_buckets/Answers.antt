use Rattle.std.proofs.Common.{◌∙◌, arith}
use Rattle.sqlite.specs.Held.{state}
use Rattle.sql_rows.specs.Content.{with_rows, with_bucket}
use Rattle.sql_rows.specs.Values.{plain_bucket}
use Rattle.sql_rows.proofs.puts.Each.{put_all, put_next}
use Rattle.sql_rows.proofs.bucket_rows.put_buckets.Goals as goal

pub rows-preserved : goal.rows-preserved
rows-preserved g c = record {
  same = c.in_ok-put_bucket.ensures.same_reference ∙ c.rows.invariant.same;
  put = put_next (λ x. with_rows c.args.account.now (with_bucket (plain_bucket x))) c.args.rows.now
      c.rows.row-index c.row-item.result _ _ _ c.in_ok-put_bucket.field-0
      (omega arith) c.row-item.is c.rows.invariant.put c.in_ok-put_bucket.ensures.makes;
}

pub returns : goal.returns
returns g c = record {
  same_reference = c.rows.invariant.same;
  makes = put_all (λ x. with_rows c.args.account.now (with_bucket (plain_bucket x))) c.args.rows.now
      c.rows.row-index (state g.S.Store c.args.tx.now.conn.now)
      (state g.S.Store c.rows.tx.conn.now) _ (omega arith) c.rows.invariant.put;
}
