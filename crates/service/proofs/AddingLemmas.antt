-- What is left of the database that files held where a book was added to it, out of what the call
-- over an opened keeper leaves.
use Rattle.std.proofs.Common.{◌≡◌, ℕ, List, Result, Ok, Err, subst}
use Rattle.sqlite_disk.specs.declared.Disk as disk
use Rattle.sqlite_wal.specs.Recovery.{Image}
use Rattle.sqlite_store.specs.declared.store.FileStore.{FileStore}
use Rattle.sqlite_trees.specs.Tree.{Trees}
use Rattle.sqlite.specs.Files.{file_state, over_files}
use Rattle.shelves.specs.Shelves.{Shelf}
use Rattle.sql_keeper.specs.AddsBook.{AddsBook, IsAddedBehind}
use Rattle.sql_keeper.specs.Inside.{IsClean, KeeperState}
use Rattle.sql_keeper.specs.Stops.{trees_in}
use Rattle.sql_keeper.specs.declared.add_fault.AddFault.{AddFault}
use Rattle.service.specs.Adding.{IsOfAdding, of_adding}
use Rattle.service.specs.Over.{EndsWith, IsAddedIn, IsOpenedIn}
use Rattle.service.specs.declared.fault.DatabaseFault.{DatabaseFault}
use Rattle.service.proofs.OverLemmas.{same_office}

abbrev IsDone : Result (Unit {0}) DatabaseFault → Type 0
IsDone (Ok unit) = Unit {0}
IsDone (Err fault) = ⊥

-- what the keeper answered where this is Ok: it is Ok too
was_done : (says : Result (Unit {0}) AddFault → Type 0) (given : Result (Unit {0}) AddFault) →
    ◌≡◌ {A = Result (Unit {0}) DatabaseFault} (Ok tt) (of_adding given) → says given → says (Ok tt)
was_done says (Ok tt) is was = was
was_done says (Err fault) is was = absurd (subst IsDone is tt)

-- the keeper's own shelf ends with the book
pub ends_with : {D : Type 0} {g : disk.Ghosts D} (old new : KeeperState (FileStore D g))
    (before after : Shelf) (text bytes : List ℕ) (from : ℕ) → text ≡ bytes →
    IsOfAdding (AddsBook over_files text from old new before after) (Ok tt) →
    EndsWith bytes from new.shelf
ends_with {D} {g} old new before after text bytes from same told =
    let adds = was_done (AddsBook over_files text from old new before after) told.answer told.is
    told.was in
    subst (λ (x : List ℕ). EndsWith x from new.shelf) same (record {
      before = old.shelf;
      book = adds.own.book;
      read = adds.own.read;
      is = adds.own.is;
    })

-- and so do the shelf and the tables of the database that the files held
pub added_in : {D : Type 0} {g : disk.Ghosts D} (image : Image)
    (old new : KeeperState (FileStore D g)) (s after : Shelf) (text bytes : List ℕ) (from : ℕ) →
    text ≡ bytes → IsOpenedIn image old s →
    IsOfAdding (AddsBook over_files text from old new s after) (Ok tt) →
    IsClean (file_state new.connection) → IsAddedIn image bytes from new after
added_in image old new s after text bytes from same opened told clean db first before held left is =
    let adds = was_done (AddsBook over_files text from old new s after) told.answer told.is
    told.was in
    let early : IsClean (file_state old.connection) = adds.cleanness clean in
    let one : s ≡ before =
    (same_office image old s opened early.disk db first before held left is).0 in
    let rows : trees_in over_files old ≡ db = opened.holds early.disk db held in
    subst (λ (x : List ℕ). IsAddedBehind x from before after db (trees_in over_files new)) same
    (subst (λ (t : Trees). IsAddedBehind text from before after t (trees_in over_files new)) rows
    (subst (λ (x : Shelf). IsAddedBehind text from x after (trees_in over_files old)
    (trees_in over_files new)) one (adds.done clean)))
