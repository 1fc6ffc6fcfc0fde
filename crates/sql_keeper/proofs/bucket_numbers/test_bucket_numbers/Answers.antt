use Rattle.sqlite.specs.Held.{state}
use Rattle.sql_keeper.proofs.reads.BucketNumbers.{from_head}
use Rattle.sql_keeper.proofs.bucket_numbers.test_bucket_numbers.Goals as goal

pub returns : goal.returns
returns g c =
    from_head c.args.account.now c.args.rows.now c.in_ok-head.head c.first_bucket.result
    (state g.S.Store c.args.conn.now) (state g.S.Store c.find_head.new.conn)
    (state g.S.Store c.test_buckets.new.conn) c.test_buckets.result c.first_bucket.ensures
    c.in_ok-head.ensures c.test_buckets.ensures
