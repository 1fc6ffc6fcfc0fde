-- Which frames of a log pass, and what stands behind them.
-- Source: SQLite's file format, section 4; the engine's own order of writes and syncs.
use Rattle.std.specs.Prelude.{◌≡◌, ◌≢◌, ℕ, ◌+◌, ◌<◌, ◌≤◌, List, length, slice_index, slice_set}
use Rattle.sqlite_wal.specs.Format.{IsFrame, page_number, commit_size, content}
use Rattle.sqlite_wal.specs.Gate.{IsShut}
use Rattle.sqlite_wal.specs.Recovery.{frame_at, header, frame, sum_before, Passes, file_page}

-- how many frames the engine gathers before it writes some of a transaction that goes on
abbrev pub spill_pages : ℕ
spill_pages = 2000

-- the first n frames pass, and no more
pub record ArePassingFrames (page_size : ℕ) (log : List ℕ) (n : ℕ) : Type 0 where
  pub each : (i : ℕ) → i < n → Passes page_size log i
  pub last : ¬ Passes page_size log n

-- there is none, or the last of the first n frames commits
abbrev pub EndsInCommit : (page_size : ℕ) (log : List ℕ) (n : ℕ) → Type 0
EndsInCommit page_size log n = (i : ℕ) → i + 1 ≡ n → commit_size (frame page_size log i) ≢ 0

-- The byte that opens a gate: the first of the header's salt. A frame's gate is its own salt's.
abbrev pub key : List ℕ → ℕ
key log = slice_index (header log) 16

-- the byte at the gate of frame n is there, and doesn't open it
abbrev pub IsShutAt : (page_size : ℕ) (log : List ℕ) (n : ℕ) → Type 0
IsShutAt page_size log n = IsShut log (frame_at page_size n + 8) (key log)

-- frame n passes with its gate taken as open
pub record PassesOpened (page_size : ℕ) (log : List ℕ) (n : ℕ) : Type 0 where
  pub within : frame_at page_size n + (24 + page_size) ≤ length log
  pub passes : IsFrame (header log) (sum_before page_size log n) (slice_set (frame page_size log n) 8 (key log))

-- with the gate of frame n taken as open the frames up to `last` pass, and none before it commits
pub record GoOnBehindGate (page_size : ℕ) (log : List ℕ) (n last : ℕ) : Type 0 where
  pub order : n ≤ last
  pub first : PassesOpened page_size log n
  pub inner : (i : ℕ) → n < i → i ≤ last → Passes page_size log i
  pub quiet : (i : ℕ) → n ≤ i → i < last → commit_size (frame page_size log i) ≡ 0

-- That one commits, and the frame behind it passes, its gate open. A transaction that was written in
-- pieces and given up leaves pieces of `spill_pages` at least.
pub record IsHidden (page_size : ℕ) (log : List ℕ) (n last : ℕ) : Type 0 where
  pub goes_on : GoOnBehindGate page_size log n last
  pub commits : commit_size (frame page_size log last) ≢ 0
  pub behind : Passes page_size log (last + 1)
  pub few : last + 1 < n + spill_pages

-- a whole commit stands behind the gate of frame n, and another behind it
-- rule: stop-log
abbrev pub HidesCommit : (page_size : ℕ) (log : List ℕ) (n : ℕ) → Type 0
HidesCommit page_size log n = (last : ℕ) × IsHidden page_size log n last

-- no frame from i + 1 to n is for the page of frame i
abbrev pub IsNewest : (page_size : ℕ) (log : List ℕ) (n i : ℕ) → Type 0
IsNewest page_size log n i =
    (j : ℕ) → i < j → j < n → page_number (frame page_size log j) ≢ page_number (frame page_size log i)

-- the file has the page of frame i as that frame has it, if no later one is for that page
abbrev pub IsPageInFile : (page_size : ℕ) (log db : List ℕ) (n i : ℕ) → Type 0
IsPageInFile page_size log db n i =
    IsNewest page_size log n i → file_page page_size db (page_number (frame page_size log i)) ≡ content (frame page_size log i)

-- the file has each page as the newest of the first n frames has it
-- rule: stop-log
abbrev pub AreInFile : (page_size : ℕ) (log db : List ℕ) (n : ℕ) → Type 0
AreInFile page_size log db n = (i : ℕ) → i < n → IsPageInFile page_size log db n i
