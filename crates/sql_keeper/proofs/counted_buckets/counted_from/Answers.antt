use Rattle.std.proofs.Common.{arith}
use Rattle.sql_keeper.proofs.loads.CountedRows.{next_live}
use Rattle.sql_keeper.proofs.counted_buckets.counted_from.Goals as goal

pub rows-preserved : goal.rows-preserved
rows-preserved c =
    next_live c.args.rows.now c.rows.row-index c.row-item.result c.rows.buckets.items
    c.push.new.self.items c.in_ok-bucket.bucket (omega arith) c.row-item.is
    c.in_ok-push.ensures.items c.rows.invariant c.in_ok-bucket.ensures
