use Rattle.std.proofs.Common.{Ok, refl}
use Rattle.sql_rows.specs.Values.{plain_bucket}
use Rattle.sql_rows.proofs.puts.PutBucket.{makes_bucket}
use Rattle.sql_rows.proofs.writes.Writes.{ran_with}
use Rattle.sql_rows.proofs.bucket_rows.insert_bucket.Goals as goal

pub returns : goal.returns
returns g c = record {
  same_reference = c.in_ok-write_bucket.ensures.same_reference;
  makes = makes_bucket c.args.account.now (plain_bucket c.args.bucket.now) refl _ _
      (Ok tt) c.requires.tables
      (ran_with _ _ _ _ c.in_ok-write_bucket.field-0 c.in_ok-write_bucket.ensures.makes tt);
}
