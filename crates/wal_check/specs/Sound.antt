-- What a stop of the machine leaves of a log that this engine alone wrote, with two syncs a commit:
-- its frames but for the first one's gate, and the gate behind them shut, are synced before that gate
-- is opened. An emptied log's gate is the first byte of its header.
-- Source: SQLite's file format, section 4; the engine's own order of writes and syncs.
use Rattle.std.specs.Prelude.{◌≡◌, ◌≢◌, ℕ, ◌<◌, ◌≤◌, List, length, slice_index, slice_set}
use Rattle.sqlite_wal.specs.Format.{be32, IsHeader}
use Rattle.sqlite_wal.specs.PageSize.{IsPageSize}
use Rattle.sqlite_wal.specs.Recovery.{Image, header}
use Rattle.wal_check.specs.Frames.{ArePassingFrames, EndsInCommit, IsShutAt, HidesCommit, AreInFile}

-- the size of a page that the header names
abbrev pub size_named : List ℕ → ℕ
size_named log = be32 (header log) 8

-- the frames that pass end in one that commits, behind a shut gate that hides no commit
-- rule: stop-log
pub record EndsSound (page_size : ℕ) (log : List ℕ) (n : ℕ) : Type 0 where
  pub all : ArePassingFrames page_size log n
  pub commits : EndsInCommit page_size log n
  pub shut : IsShutAt page_size log n
  pub bare : ¬ HidesCommit page_size log n

-- a header that passes, and frames that end sound
pub record IsWritten (log : List ℕ) : Type 0 where
  pub size : IsPageSize (size_named log)
  pub head : IsHeader (size_named log) (header log)
  pub frames : ℕ
  pub ends : EndsSound (size_named log) log frames

-- the header with its gate taken as open
abbrev pub opened_header : List ℕ → List ℕ
opened_header log = slice_set (header log) 0 0x37

-- A log is emptied once the file has its pages. So where its header passes but for its gate, the
-- file has them.
-- rule: stop-log
abbrev pub IsWrittenBack : (log db : List ℕ) → Type 0
IsWrittenBack log db =
    32 ≤ length log → IsPageSize (size_named log) → IsHeader (size_named log) (opened_header log)
    → (n : ℕ) → ArePassingFrames (size_named log) log n → AreInFile (size_named log) log db n

-- a log's first byte is that of a header, or of one that is being written
pub record IsLogLeft (log db : List ℕ) : Type 0 where
  pub written : slice_index log 0 ≡ 0x37 → IsWritten log
  pub emptied : slice_index log 0 ≢ 0x37 → IsWrittenBack log db

-- A stop may have left the two files so. The log of an empty file isn't read, and one byte is what a
-- stop may leave of a log that is being made.
-- rule: stop-log: whether a stop of the machine can have left a database's file and its log so is
--   found, exactly, and looking writes nothing
abbrev pub IsSoundImage : Image → Type 0
IsSoundImage image = 0 < length image.db → 1 < length image.log → IsLogLeft image.log image.db
