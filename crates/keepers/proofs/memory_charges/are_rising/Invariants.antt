use Rattle.std.proofs.Common.{◌≡◌, ◌≤◌, drop}
use Rattle.keepers.specs.Rows.{are_rising}
use Rattle.keepers.proofs.memory_charges.are_rising.Given as goal

abbrev pub invariant-loop-row : goal.invariant-loop-row
invariant-loop-row l = record {
  rest : are_rising l.least (drop l.row-index l.rows) ≡ are_rising 0 l.fn.rows;
  small : l.least ≤ 4294967296;
}
