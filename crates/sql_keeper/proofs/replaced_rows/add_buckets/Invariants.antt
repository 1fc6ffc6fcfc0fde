use Rattle.std.proofs.Common.{◌≡◌, ℕ, drop}
use Rattle.std.specs.Prelude.{filter, not}
use Rattle.buckets.specs.Row.{BucketRow}
use Rattle.reserving.specs.Left.{bucket_in, first_of, is_dead}
use Rattle.sql_keeper.proofs.replaced_rows.add_buckets.Given as goal

abbrev pub invariant-loop-row : goal.invariant-loop-row
invariant-loop-row l =
    (n : ℕ) → first_of (bucket_in n l.rows.items)
    (bucket_in n (filter (λ (b : BucketRow). not (is_dead b)) (drop l.row-index l.named)))
    ≡ first_of (bucket_in n l.fn.rows.items)
    (bucket_in n (filter (λ (b : BucketRow). not (is_dead b)) l.named))
