-- What the next process finds of the files of a keeper.
-- Source: profile.
use Rattle.sqlite_disk.specs.declared.Disk.{Ghosts}
use Rattle.sqlite_wal.specs.Recovery.{Image}
use Rattle.sqlite_store.specs.FileStore.{recovers, state as files_of, view}
use Rattle.sqlite_store.specs.declared.store.FileStore.{FileStore}
use Rattle.sqlite.specs.Files.{IsOpened as IsConnectedTo, file_state, over_files}
use Rattle.sqlite.specs.Held.{Held, IsConnected}
use Rattle.sqlite.specs.Start.{FindsIn}
use Rattle.sqlite.specs.State.{HasCleanDisk}
use Rattle.shelves.specs.Shelves.{Shelf}
use Rattle.sql_tables.specs.declared.fault.OpenFault.{OpenFault}
use Rattle.sql_keeper.specs.Again.{IsFoundAfter}
use Rattle.sql_keeper.specs.Causes.{IsStores}
use Rattle.sql_keeper.specs.Inside.{IsKeeper, KeeperState}
use Rattle.sql_keeper.specs.Opened.{IsNotOpened, IsOpened}

-- what the type of a connection keeps
abbrev pub IsOfConnection : {D : Type 0} {g : Ghosts D} → Held (FileStore D g) → Type 0
IsOfConnection h =
    IsConnected (view h.store) (recovers h.store) h.schema h.saved h.in_transaction

-- A keeper over files is stopped at any moment, and a later process connects to files with contents
-- that the stop may have left. If it opens them, it has the rows that the stop left, under the text
-- and the books of the keeper that was stopped; if not, no row is why.
-- rule: stop-process: the next process finds in the files what a stop left
-- rule: stop
abbrev pub IsFoundByNext : {D E : Type 0} → Ghosts D → Ghosts E → Type 0
IsFoundByNext {D} {E} g e =
    (old : KeeperState (FileStore D g)) → IsKeeper over_files old
    → IsOfConnection old.connection → HasCleanDisk (file_state old.connection)
    → (image : Image) → (files_of old.connection.store).may_leave image
    → (shown : Held (FileStore E e)) → IsConnectedTo shown → FindsIn image (file_state shown)
    → ((new : KeeperState (FileStore E e)) (shelf : Shelf) → IsOpened over_files shown new shelf
    → HasCleanDisk (file_state new.connection)
    → ∥ IsFoundAfter over_files over_files old new shelf ∥₁)
    × ((left : Held (FileStore E e)) (fault : OpenFault)
    → IsNotOpened over_files shown left fault → HasCleanDisk (file_state left)
    → IsStores fault)
