use Rattle.std.proofs.Common.{arith, refl}
use Rattle.std.specs.Prelude.{◌==◌, filter, not}
use Rattle.buckets.specs.Row.{BucketRow}
use Rattle.reserving.specs.Left.{bucket_in, first_of, is_dead}
use Rattle.sql_keeper.proofs.puts.RowsAdded.{all_with, next_with}
use Rattle.sql_keeper.proofs.replaced_rows.add_buckets.Goals as goal

pub loop-row-init : goal.loop-row-init
loop-row-init c = λ n. refl

pub loop-row-preserved : goal.loop-row-preserved
loop-row-preserved c = λ n.
    next_with (λ (b : BucketRow). b.number == n) (λ (b : BucketRow). not (is_dead b))
    c.args.named.now c.loop-row.row-index c.row-item.result c.loop-row.rows.items
    c.add_bucket.new.rows.items
    (first_of (bucket_in n c.args.rows.now.items)
    (bucket_in n (filter (λ (b : BucketRow). not (is_dead b)) c.args.named.now)))
    (omega arith) c.row-item.is (c.loop-row.invariant n) (c.in_ok-add_bucket.ensures n)

pub returns : goal.returns
returns c = λ n.
    all_with (λ (b : BucketRow). b.number == n) (λ (b : BucketRow). not (is_dead b))
    c.args.named.now c.loop-row.row-index c.loop-row.rows.items
    (first_of (bucket_in n c.args.rows.now.items)
    (bucket_in n (filter (λ (b : BucketRow). not (is_dead b)) c.args.named.now)))
    (omega arith) (c.loop-row.invariant n)
