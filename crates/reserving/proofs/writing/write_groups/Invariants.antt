use Rattle.std.proofs.Common.{◌≡◌, ◌+◌, ◌≤◌, ◌++◌, length, vec_len, vec_capacity}
use Rattle.reserving.specs.Sessions.{group_before}
use Rattle.reserving.specs.Rows.{AreAscending}
use Rattle.reserving.specs.Written.{groups_written}
use Rattle.reserving.proofs.writing.write_groups.Given as goal

abbrev pub invariant-loop-row : goal.invariant-loop-row
invariant-loop-row l = record {
  rows : groups_written l.row-iterator.rest.items l.rows.items
      ≡ groups_written l.fn.named.items l.fn.rows.items;
  room : vec_len l.rows + length l.row-iterator.rest.items ≤ vec_capacity l.rows;
  order : AreAscending group_before l.rows.items;
}
