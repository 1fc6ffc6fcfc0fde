use Rattle.std.proofs.Common.{◌≡◌, map, take}
use Rattle.sql_keeper.specs.Kinds.{counted_live}
use Rattle.sql_keeper.proofs.counted_buckets.counted_from.Given as goal

abbrev pub invariant-rows : goal.invariant-rows
invariant-rows l = l.buckets.items ≡ map counted_live (take l.row-index l.rows)
