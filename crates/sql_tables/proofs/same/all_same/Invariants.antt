use Rattle.std.proofs.Common.{◌≡◌, take}
use Rattle.sql_tables.proofs.same.all_same.Given as goal

abbrev pub invariant-rows : goal.invariant-rows
invariant-rows g l = take l.at l.first ≡ take l.at l.second
