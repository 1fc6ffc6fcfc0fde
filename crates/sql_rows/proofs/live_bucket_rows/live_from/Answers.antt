use Rattle.std.proofs.Common.{rules}
use Rattle.buckets.specs.Row.{precedes}
use Rattle.sql_rows.specs.Texts.{bucket_row, columns_of}
use Rattle.sql_rows.specs.declared.live_bucket_rows.LiveBucket.{LiveBucket}
use Rattle.sql_rows.proofs.lists.Rising.{ascends_map}
use Rattle.sql_rows.proofs.live_bucket_rows.live_from.Goals as goal

pub returns-clause-order : goal.returns-clause-order
returns-clause-order c =
    ascends_map precedes bucket_row (columns_of c.rows.buckets.items)
    (ascends_map (λ x y. precedes (bucket_row x) (bucket_row y)) (λ (x : LiveBucket). x.columns)
    c.rows.buckets.items (search rules))
