-- What connections leave of the database that files held.
use Rattle.std.proofs.Common.{Result, Ok, Err}
use Rattle.std.specs.Prelude.{IfOk}
use Rattle.sqlite_disk.specs.declared.Disk as disk
use Rattle.sqlite_wal.specs.Recovery.{Image}
use Rattle.sqlite_store.specs.declared.store.FileStore.{FileStore}
use Rattle.sqlite.specs.Files.{file_state, over_files}
use Rattle.shelves.specs.Shelves.{Shelf}
use Rattle.keepers.specs.Tables.{Tables}
use Rattle.sql_keeper.specs.Inside.{IsClean, KeeperState, tables_in}
use Rattle.service.specs.Over.{Comes, IsOpenedIn}
use Rattle.service.proofs.OverLemmas.{comes_from}

-- what is so of a keeper whose store is clean is so of the tables of that database
-- rule: database-words.opened-in
pub clean_from : {D A E : Type 0} {g : disk.Ghosts D} (image : Image)
    (old : KeeperState (FileStore D g)) (s : Shelf) (r : Result A E)
    (keeper : A → KeeperState (FileStore D g)) (says : Shelf → Tables → Tables → Type 0) →
    IsOpenedIn image old s →
    IfOk r (λ x. IsClean (file_state (keeper x).connection) →
    IsClean (file_state old.connection)) →
    IfOk r (λ x. IsClean (file_state (keeper x).connection) →
    says s (tables_in over_files old) (tables_in over_files (keeper x))) →
    IfOk r (λ x. IsClean (file_state (keeper x).connection) → Comes image (keeper x) says)
clean_from image old s (Ok x) keeper says opened cleanness done = λ clean.
    comes_from image old (keeper x) s says opened (cleanness clean).disk (done clean)
clean_from image old s (Err e) keeper says opened cleanness done = tt
