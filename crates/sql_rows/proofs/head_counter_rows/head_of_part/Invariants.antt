use Rattle.std.proofs.Common.{◌≡◌, ◌++◌, map, drop}
use Rattle.std.specs.Prelude.{filter}
use Rattle.sql_tables.specs.Selects.{one_or_none}
use Rattle.sql_rows.specs.Lists.{head_part, of_part}
use Rattle.sql_rows.proofs.head_counter_rows.head_of_part.Given as goal

abbrev pub invariant-rows : goal.invariant-rows
invariant-rows l =
    map head_part (one_or_none l.found) ++ filter (of_part 0) (drop l.row-index l.rows)
    ≡ filter (of_part 0) l.rows
