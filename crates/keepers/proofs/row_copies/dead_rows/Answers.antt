use Rattle.std.proofs.Common.{List, subst}
use Rattle.std.specs.List.Sorted.{IsPermutation}
use Rattle.buckets.specs.Row.{BucketRow}
use Rattle.keepers.proofs.row_copies.dead_rows.Goals as goal

pub returns-clause-same : goal.returns-clause-same
returns-clause-same c =
    subst (λ (xs : List BucketRow). IsPermutation xs c.sort_by_number.new.rows.items)
    c.in_ok-rows.ensures c.sort_by_number.ensures.same
