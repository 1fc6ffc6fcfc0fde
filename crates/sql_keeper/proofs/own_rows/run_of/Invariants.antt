use Rattle.std.proofs.Common.{◌≡◌, ◌++◌, drop}
use Rattle.sql_keeper.specs.GroupRows.{held_for}
use Rattle.sql_keeper.proofs.own_rows.run_of.Given as goal

abbrev pub invariant-rows : goal.invariant-rows
invariant-rows l =
    l.own.items ++ held_for l.session (drop l.row-index l.rest) ≡ held_for l.session l.rest
