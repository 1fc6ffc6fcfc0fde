use Rattle.std.proofs.Common.{◌≡◌, ◌+◌, ◌≤◌, ◌++◌, length, vec_len, vec_capacity}
use Rattle.reserving.specs.Sessions.{counter_before}
use Rattle.reserving.specs.Rows.{AreAscending}
use Rattle.reserving.specs.Written.{counters_written}
use Rattle.reserving.proofs.writing.write_counters.Given as goal

abbrev pub invariant-loop-row : goal.invariant-loop-row
invariant-loop-row l = record {
  rows : counters_written l.row-iterator.rest.items l.rows.items
      ≡ counters_written l.fn.named.items l.fn.rows.items;
  room : vec_len l.rows + length l.row-iterator.rest.items ≤ vec_capacity l.rows;
  order : AreAscending counter_before l.rows.items;
}
