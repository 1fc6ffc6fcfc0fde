use Rattle.sql_keeper.proofs.puts.Puts.{makes_all_then}
use Rattle.sql_keeper.proofs.counted_buckets.put_with_kind.Goals as goal

pub returns : goal.returns
returns g c = makes_all_then c.in_ok-put_bucket.ensures c.put_scoped.ensures
