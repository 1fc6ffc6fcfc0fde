use Rattle.std.proofs.Common.{◌∙◌}
use Rattle.sql_rows.specs.Values.{plain_bucket}
use Rattle.sql_rows.specs.Content.{has_bucket, with_bucket, with_rows}
use Rattle.sql_rows.proofs.writes.Replaces.{was_put}
use Rattle.sql_rows.proofs.bucket_rows.put_bucket.Goals as goal

pub returns : goal.returns
returns g c = record {
  same_reference = c.insert_bucket.ensures.same_reference
      ∙ c.in_ok-replace_bucket.ensures.same_reference;
  makes = was_put (has_bucket c.args.account.now c.args.bucket.now.number)
      (with_rows c.args.account.now (with_bucket (plain_bucket c.args.bucket.now)))
      _ c.if-branch.false _ _ _ c.insert_bucket.result
      c.in_ok-replace_bucket.ensures.replaces c.insert_bucket.ensures.makes;
}
