-- What is printed of a month, and what the calls answer that print it.
-- Source: profile.
use Rattle.std.specs.Prelude.{◌≡◌, ◌⊎◌, Option, Result, IfErr, IfOk, OnErr}
use Rattle.std.specs.Io.KnownBytes.{Appends}
use Rattle.texts.specs.StreamWords.{Bytes}
use Rattle.shelves.specs.Shelves.{Shelf}
use Rattle.sqlite_disk.specs.declared.Disk as disk
use Rattle.sqlite_wal.specs.Recovery.{Image}
use Rattle.sqlite_store.specs.declared.store.FileStore.{FileStore}
use Rattle.sqlite.specs.Files.{file_state}
use Rattle.sqlite.specs.State.{HasCleanDisk}
use Rattle.sql_keeper.specs.Inside.{KeeperState}
use Rattle.operations.specs.Months.{PrintsMonth, WritesMonth, unknown_line}
use Rattle.operations.specs.Printed.{IsEnded}
use Rattle.operations.specs.Written.{WritesBeginning}
use Rattle.operations.specs.declared.status.Status.{Status}
use Rattle.operator.specs.declared.parsed.StatementWords.{StatementWords}
use Rattle.service.specs.Opening.{IsCommandFault, IsUnasked}
use Rattle.service.specs.Over.{Comes, IsMonthDone, query_of}
use Rattle.service.specs.declared.fault.DatabaseFault.{DatabaseFault}

-- ---- what is printed, whatever a database holds

-- the month of words by the books of some shelf, or that there is no such account: it ends so
-- rule: statement.month-told
pub record PrintsMonthOf (words : StatementWords) (old new : Option Bytes) (status : Status)
    : Type 0 where
  pub shelf : Shelf
  pub printed : PrintsMonth shelf (query_of words) old new status

-- a beginning of that month
pub record BeginsSomeMonth (words : StatementWords) (old new : Option Bytes) : Type 0 where
  pub shelf : Shelf
  pub begun : WritesMonth shelf (query_of words) (WritesBeginning old new)

-- or of the line; it may be empty
-- rule: statement.month-told
abbrev pub BeginsMonthOf : StatementWords → Option Bytes → Option Bytes → Type 0
BeginsMonthOf words old new =
    BeginsSomeMonth words old new ⊎ WritesBeginning old new unknown_line

-- ---- what the calls answer

-- the month is printed, or that there is no account; or a beginning of one of them
pub record StatesOffice {O : Type 0} (contents : O → Option Bytes) (words : StatementWords)
    (old new : O) (result : Result Status DatabaseFault) : Type 0 where
  pub printed : IfOk result (PrintsMonthOf words (contents old) (contents new))
  pub begun : OnErr result (BeginsMonthOf words (contents old) (contents new))
  pub ended : IfOk result (IsEnded (Appends (contents old) (contents new) unknown_line))
  pub unwritten : IfErr result (λ fault. IsUnasked fault → new ≡ old)
  pub fault : IfErr result (IsCommandFault words.at)

-- so it is, of what the files held, which stays
pub record StatesOver {D O : Type 0} {g : disk.Ghosts D} (image : Image)
    (contents : O → Option Bytes) (words : StatementWords) (old new : O)
    (result : Result (Status × KeeperState (FileStore D g)) DatabaseFault) : Type 0 where
  pub told : IfOk result (λ r. HasCleanDisk (file_state r.1.connection) →
      Comes image r.1 (IsMonthDone words (contents old) (contents new) r.0))
  pub printed : IfOk result (λ r. PrintsMonthOf words (contents old) (contents new) r.0)
  pub begun : OnErr result (BeginsMonthOf words (contents old) (contents new))
  pub ended : IfOk result (λ r.
      IsEnded (Appends (contents old) (contents new) unknown_line) r.0)
  pub unwritten : IfErr result (λ fault. IsUnasked fault → new ≡ old)
  pub fault : IfErr result (IsCommandFault words.at)
