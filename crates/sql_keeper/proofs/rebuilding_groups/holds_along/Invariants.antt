use Rattle.std.proofs.Common.{◌≡◌, ◌++◌, drop}
use Rattle.sql_keeper.specs.GroupRows.{holds_along}
use Rattle.sql_keeper.proofs.rebuilding_groups.holds_along.Given as goal

abbrev pub invariant-buckets : goal.invariant-buckets
invariant-buckets l =
    l.holds.items ++ holds_along (drop l.bucket-index l.buckets) l.group l.held
    ≡ holds_along l.buckets l.group l.held
