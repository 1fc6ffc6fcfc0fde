-- What `clock` prints, by the office that it opened.
use Rattle.std.proofs.Common.{◌≡◌, List, ℕ, Option, Result, Ok, Err, inl, subst, sym}
use Rattle.std.specs.Prelude.{IfOk, OnErr, OnOk}
use Rattle.std.specs.Io.KnownBytes.{Appends}
use Rattle.sqlite_disk.specs.declared.Disk as disk
use Rattle.sqlite_wal.specs.Recovery.{Image}
use Rattle.sqlite_store.specs.declared.store.FileStore.{FileStore}
use Rattle.shelves.specs.Shelves.{Shelf}
use Rattle.sql_keeper.specs.Inside.{KeeperState}
use Rattle.operations.specs.CivilClock.{clock_text}
use Rattle.operations.specs.Written.{WritesBeginning}
use Rattle.operator.specs.declared.parsed.ClockWords.{ClockWords}
use Rattle.service.specs.CivilClock.{BeginsClock, IsClockShown}
use Rattle.service.specs.Over.{IsOpenedIn}
use Rattle.service.specs.declared.fault.DatabaseFault.{DatabaseFault}

-- rule: civil-clock
pub shown_by : {D : Type 0} {g : disk.Ghosts D} (image : Image) (words : ClockWords)
    (old new : Option (List ℕ)) (k : KeeperState (FileStore D g)) (shelf : Shelf)
    (r : Result (KeeperState (FileStore D g)) DatabaseFault) → IsOpenedIn image k shelf →
    IfOk r (λ x. x ≡ k) → OnOk r (Appends old new (clock_text shelf words.moments)) →
    IfOk r (IsClockShown image words old new)
shown_by image words old new k shelf (Ok x) opened same printed = record {
  shelf = shelf;
  opened = subst (λ y. IsOpenedIn image y shelf) (sym same) opened;
  printed = printed;
}
shown_by image words old new k shelf (Err f) opened same printed = tt

pub begun_by : {A : Type 0} (words : ClockWords) (old new : Option (List ℕ)) (shelf : Shelf)
    (r : Result A DatabaseFault) →
    OnErr r (WritesBeginning old new (clock_text shelf words.moments)) →
    OnErr r (BeginsClock words old new)
begun_by words old new shelf (Ok x) begun = tt
begun_by words old new shelf (Err f) begun = inl (record { shelf = shelf; begun = begun })
