use Rattle.std.proofs.Common.{take}
use Rattle.sqlite.specs.Held.{state}
use Rattle.sql_keeper.proofs.reads.BucketNumbers.{HaveTested}
use Rattle.sql_keeper.proofs.bucket_numbers.test_buckets.Given as goal

abbrev pub invariant-rows : goal.invariant-rows
invariant-rows g l =
    HaveTested l.account l.first (take l.row-index l.rows)
    (state g.S.Store l.fn.conn) (state g.S.Store l.conn)
