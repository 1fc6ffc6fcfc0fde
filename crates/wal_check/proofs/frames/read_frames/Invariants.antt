use Rattle.std.proofs.Common.{◌≡◌, ◌≤◌, ◌-◌, length}
use Rattle.sqlite_wal.specs.Recovery.{frame_at}
use Rattle.sqlite_wal.specs.Reads.{IsClean, OnlyReads}
use Rattle.wal_check.proofs.Reading.{SoFar}
use Rattle.wal_check.proofs.frames.read_frames.Given as goal

abbrev pub invariant-loop-numbers : goal.invariant-loop-numbers
invariant-loop-numbers g l =
    (IsClean g.D.Disk l.log → SoFar l.shape.page_size (g.D.Disk.seen l.fn.log) l.numbers.items l.place l.commits)
    × OnlyReads g.D.Disk l.fn.log l.log
    × (g.D.Disk.faults l.log ≡ g.D.Disk.faults l.fn.log)
    × (l.place.frame ≤ l.place.at)
    × (l.place.frame ≡ length l.numbers.items)
    × (l.place.at ≡ frame_at l.shape.page_size l.place.frame)

abbrev pub decreases-loop-numbers : goal.decreases-loop-numbers
decreases-loop-numbers g l = l.shape.len - l.place.at
