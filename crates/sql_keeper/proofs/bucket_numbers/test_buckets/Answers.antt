use Rattle.std.proofs.Common.{arith}
use Rattle.sqlite.specs.Held.{state}
use Rattle.sql_keeper.proofs.reads.BucketNumbers.{all_tested, next_tested, none_tested}
use Rattle.sql_keeper.proofs.reads.InTurn.{failed_then}
use Rattle.sql_keeper.proofs.bucket_numbers.test_buckets.Goals as goal

pub rows-init : goal.rows-init
rows-init g c = none_tested c.args.account.now c.args.first (state g.S.Store c.args.conn.now)
    c.requires.idle

pub test_bucket-requires : goal.test_bucket-requires
test_bucket-requires g c = record { idle = c.rows.invariant.reads.only.idle }

pub returns-in_err-test_bucket : goal.returns-in_err-test_bucket
returns-in_err-test_bucket g c =
    failed_then _ (state g.S.Store c.args.conn.now) (state g.S.Store c.rows.conn)
    (state g.S.Store c.test_bucket.new.conn) c.from_residual.result c.from_residual.ensures.0
    c.rows.invariant.reads c.test_bucket.ensures.only c.test_bucket.ensures.survives

pub rows-preserved : goal.rows-preserved
rows-preserved g c =
    next_tested c.args.account.now c.args.first c.args.rows.now c.rows.row-index
    c.row-item.result (state g.S.Store c.args.conn.now) (state g.S.Store c.rows.conn)
    (state g.S.Store c.test_bucket.new.conn) (omega arith) c.row-item.is c.rows.invariant
    c.in_ok-test_bucket.ensures

pub returns : goal.returns
returns g c =
    all_tested c.args.account.now c.args.first c.args.rows.now c.rows.row-index
    (state g.S.Store c.args.conn.now) (state g.S.Store c.rows.conn) (omega arith)
    c.rows.invariant
