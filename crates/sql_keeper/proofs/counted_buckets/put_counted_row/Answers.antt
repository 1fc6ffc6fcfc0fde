use Rattle.std.proofs.Common.{sym}
use Rattle.sql_keeper.proofs.puts.KeptKinds.{over_known, over_unknown}
use Rattle.sql_keeper.proofs.counted_buckets.put_counted_row.Goals as goal

pub returns-then-is_counted : goal.returns-then-is_counted
returns-then-is_counted g c =
    over_known c.args.account.now c.args.kept.now c.args.bucket.now (sym c.if-is_counted.ensures)
    c.put_bucket.ensures

pub returns-else-is_counted : goal.returns-else-is_counted
returns-else-is_counted g c =
    over_unknown c.args.account.now c.args.kept.now c.args.bucket.now (sym c.if-is_counted.ensures)
    c.put_with_kind.ensures
