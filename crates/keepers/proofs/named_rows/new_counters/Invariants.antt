use Rattle.std.proofs.Common.{◌≡◌, ◌++◌, drop}
use Rattle.reserving.specs.Left.{differing}
use Rattle.keepers.specs.Differing.{equal_counter}
use Rattle.keepers.proofs.named_rows.new_counters.Given as goal

abbrev pub invariant-rows : goal.invariant-rows
invariant-rows l =
    l.new.items ++ differing equal_counter l.before.counters (drop l.row-index l.rows)
    ≡ differing equal_counter l.before.counters l.rows
