use Rattle.std.proofs.Common.{◌≡◌, map, take}
use Rattle.sql_rows.specs.Values.{bucket_cells}
use Rattle.sql_rows.specs.Texts.{bucket_row}
use Rattle.sql_rows.proofs.bucket_rows.buckets_from.Given as goal

abbrev pub invariant-rows : goal.invariant-rows
invariant-rows l = map bucket_cells (map bucket_row l.buckets.items) ≡ take l.row-index l.rows
