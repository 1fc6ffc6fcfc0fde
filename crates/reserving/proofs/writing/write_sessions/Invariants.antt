use Rattle.std.proofs.Common.{◌≡◌, ◌+◌, ◌≤◌, ◌++◌, length, vec_len, vec_capacity}
use Rattle.reserving.specs.Sessions.{session_before}
use Rattle.reserving.specs.Rows.{AreAscending}
use Rattle.reserving.specs.Written.{sessions_written}
use Rattle.reserving.proofs.writing.write_sessions.Given as goal

abbrev pub invariant-loop-row : goal.invariant-loop-row
invariant-loop-row l = record {
  rows : sessions_written l.row-iterator.rest.items l.rows.items
      ≡ sessions_written l.fn.named.items l.fn.rows.items;
  room : vec_len l.rows + length l.row-iterator.rest.items ≤ vec_capacity l.rows;
  order : AreAscending session_before l.rows.items;
}
