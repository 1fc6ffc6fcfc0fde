use Rattle.std.proofs.Common.{◌≡◌, ◌++◌, map, drop}
use Rattle.std.specs.Prelude.{filter}
use Rattle.sql_rows.specs.Lists.{counter_part, of_part}
use Rattle.sql_rows.proofs.head_counter_rows.counters_of_part.Given as goal

abbrev pub invariant-rows : goal.invariant-rows
invariant-rows l =
    map (counter_part l.part) l.counters.items ++ filter (of_part l.part) (drop l.row-index l.rows)
    ≡ filter (of_part l.part) l.rows
