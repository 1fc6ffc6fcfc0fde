use Rattle.std.proofs.Common.{◌≡◌, ◌+◌, ◌<◌, ℕ, length}
use Rattle.sqlite_wal.specs.Reads.{IsClean, AreClean, OnlyReads}
use Rattle.sqlite_wal.specs.Recovery.{frame_at}
use Rattle.wal_check.specs.Frames.{IsPageInFile}
use Rattle.wal_check.proofs.written_back.are_in_file.Given as goal

abbrev pub invariant-loop-i : goal.invariant-loop-i
invariant-loop-i g l =
    (AreClean g.D.Disk l.files.log l.files.db → (i : ℕ) → i < l.i
    → IsPageInFile (length l.page) (g.D.Disk.seen l.fn.files.log) (g.D.Disk.seen l.fn.files.db) (length l.numbers) i)
    × OnlyReads g.D.Disk l.fn.files.log l.files.log
    × OnlyReads g.D.Disk l.fn.files.db l.files.db
    × (IsClean g.D.Disk l.files.db → l.len ≡ length (g.D.Disk.seen l.fn.files.db))
    × (l.at ≡ frame_at (length l.page) l.i)
    × (g.D.Disk.faults l.files.log + g.D.Disk.faults l.files.db ≡ g.D.Disk.faults l.fn.files.log + g.D.Disk.faults l.fn.files.db)
