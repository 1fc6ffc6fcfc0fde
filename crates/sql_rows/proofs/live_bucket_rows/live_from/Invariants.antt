use Rattle.std.proofs.Common.{◌≡◌, map, take}
use Rattle.sql_rows.specs.Texts.{live_cells}
use Rattle.sql_rows.proofs.live_bucket_rows.live_from.Given as goal

abbrev pub invariant-rows : goal.invariant-rows
invariant-rows l = map live_cells l.buckets.items ≡ take l.row-index l.rows
