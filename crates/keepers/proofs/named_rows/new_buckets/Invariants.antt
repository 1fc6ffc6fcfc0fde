use Rattle.std.proofs.Common.{◌≡◌, ◌++◌, drop}
use Rattle.reserving.specs.Left.{differing}
use Rattle.keepers.specs.Differing.{equal_bucket}
use Rattle.keepers.proofs.named_rows.new_buckets.Given as goal

abbrev pub invariant-rows : goal.invariant-rows
invariant-rows l =
    l.new.items ++ differing equal_bucket l.before.buckets (drop l.row-index l.rows)
    ≡ differing equal_bucket l.before.buckets l.rows
