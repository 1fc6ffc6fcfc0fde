use Rattle.std.proofs.Common.{◌≡◌, ◌+◌, ◌≤◌}
use Rattle.sqlite_wal.specs.Reads.{IsClean, OnlyReads}
use Rattle.wal_check.proofs.Hiding.{Searched}
use Rattle.wal_check.proofs.hidden.hides_commit.Given as goal

abbrev pub invariant-loop-step : goal.invariant-loop-step
invariant-loop-step g l =
    (IsClean g.D.Disk l.log → Searched l.shape.page_size (g.D.Disk.seen l.fn.log) l.fn.place.frame l.next l.frame)
    × OnlyReads g.D.Disk l.fn.log l.log
    × (g.D.Disk.faults l.log ≡ g.D.Disk.faults l.fn.log)
    × (l.next.frame ≤ l.next.at)
    × (l.next.frame ≡ l.fn.place.frame + l._step)
