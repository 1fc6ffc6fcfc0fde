-- What `clock` prints of a database, and which faults it reports.
-- Source: profile.
use Rattle.std.specs.Prelude.{◌≡◌, ◌⊎◌, Option, Result, IfErr, IfOk, OnErr, OnOk}
use Rattle.std.specs.Io.KnownBytes.{Appends}
use Rattle.texts.specs.StreamWords.{Bytes}
use Rattle.shelves.specs.Shelves.{Shelf}
use Rattle.sqlite_disk.specs.declared.Disk as disk
use Rattle.sqlite_wal.specs.Recovery.{Image}
use Rattle.sqlite_store.specs.declared.store.FileStore.{FileStore}
use Rattle.sql_keeper.specs.Inside.{KeeperState}
use Rattle.operations.specs.CivilClock.{clock_text}
use Rattle.operations.specs.Written.{WritesBeginning}
use Rattle.operations.specs.declared.fault.OfficeFault.{OfficeFault}
use Rattle.operations.specs.declared.fault.OfficeFault.TheVariants as office
use Rattle.operator.specs.declared.parsed.ClockWords.{ClockWords}
use Rattle.service.specs.Opening.{IsUnasked}
use Rattle.service.specs.Over.{IsOpenedIn}
use Rattle.service.specs.declared.fault.DatabaseFault.{DatabaseFault}
use Rattle.service.specs.declared.fault.DatabaseFault.TheVariants.{File, Memory, Office, Open}

-- ---- faults

-- nothing is asked of the store: what failed is writing
abbrev pub IsUnwritten : OfficeFault → Type 0
IsUnwritten (office.Store fault) = ⊥
IsUnwritten (office.Write fault) = Unit {0}

-- one of a file, of the tables of its database, of memory, or of writing
-- rule: civil-clock
abbrev pub IsClockFault : DatabaseFault → Type 0
IsClockFault File = Unit {0}
IsClockFault (Open fault) = Unit {0}
IsClockFault Memory = Unit {0}
IsClockFault (Office fault) = IsUnwritten fault
IsClockFault _ = ⊥

-- ---- what is printed, whatever a database holds

-- the lines of the words' moments, by the books of some shelf
-- rule: civil-clock
pub record PrintsClock (words : ClockWords) (old new : Option Bytes) : Type 0 where
  pub shelf : Shelf
  pub printed : Appends old new (clock_text shelf words.moments)

-- a beginning of such lines
pub record BeginsSomeClock (words : ClockWords) (old new : Option Bytes) : Type 0 where
  pub shelf : Shelf
  pub begun : WritesBeginning old new (clock_text shelf words.moments)

-- or nothing
-- rule: civil-clock
abbrev pub BeginsClock : ClockWords → Option Bytes → Option Bytes → Type 0
BeginsClock words old new = BeginsSomeClock words old new ⊎ (new ≡ old)

-- ---- what the calls answer

-- the lines are printed, or a beginning of them
pub record ShowsClock {A O : Type 0} (contents : O → Option Bytes) (words : ClockWords)
    (old new : O) (result : Result A DatabaseFault) : Type 0 where
  pub printed : OnOk result (PrintsClock words (contents old) (contents new))
  pub begun : OnErr result (BeginsClock words (contents old) (contents new))
  pub unwritten : IfErr result (λ fault. IsUnasked fault → new ≡ old)
  pub fault : IfErr result IsClockFault

-- the lines are those of the shelf that a keeper was opened with, from what the files held
-- rule: civil-clock, database-words.opened-in
pub record IsClockShown {D : Type 0} {g : disk.Ghosts D} (image : Image) (words : ClockWords)
    (old new : Option Bytes) (k : KeeperState (FileStore D g)) : Type 0 where
  pub shelf : Shelf
  pub opened : IsOpenedIn image k shelf
  pub printed : Appends old new (clock_text shelf words.moments)

-- they are printed so, or a beginning of them is
pub record ShowsClockOver {D O : Type 0} {g : disk.Ghosts D} (image : Image)
    (contents : O → Option Bytes) (words : ClockWords) (old new : O)
    (result : Result (KeeperState (FileStore D g)) DatabaseFault) : Type 0 where
  pub shown : IfOk result (IsClockShown image words (contents old) (contents new))
  pub begun : OnErr result (BeginsClock words (contents old) (contents new))
  pub unwritten : IfErr result (λ fault. IsUnasked fault → new ≡ old)
  pub fault : IfErr result IsClockFault
