use Rattle.std.proofs.Common.{◌≡◌, map, take}
use Rattle.sql_keeper.specs.Kinds.{counted_by}
use Rattle.sql_keeper.proofs.rebuilding.buckets_of.Given as goal

abbrev pub invariant-rows : goal.invariant-rows
invariant-rows l = l.buckets.items ≡ map (counted_by l.numbers) (take l.row-index l.rows)
