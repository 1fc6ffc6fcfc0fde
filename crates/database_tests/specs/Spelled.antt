-- What three calls of a keeper over a database say, spelled out: each sentence that a reader may look
-- for by itself, also where it follows from others.
-- Source: profile.
use Rattle.std.specs.Prelude.{◌≡◌, ◌≤◌, ◌+◌, suc, false, [], min}
use Rattle.std.specs.Prelude.{IfErr, IsErrOf, OnErr, OnOk, Result}
use Rattle.units.specs.Words.{Moment}
use Rattle.tariffs.specs.Books.{Book}
use Rattle.shelves.specs.Words.{BookText}
use Rattle.shelves.specs.Shelves.{Shelf, count, with_book}
use Rattle.sqlite_trees.specs.declared.store.Store.{Ghosts}
use Rattle.sqlite.specs.Held.{Held, state}
use Rattle.sqlite.specs.State.{HasCleanDisk, Survives}
use Rattle.keepers.specs.Faults.{max_failures}
use Rattle.keepers.specs.Tables.{no_tables}
use Rattle.keepers.specs.declared.fault.StoreFault.TheVariants.{Store as Failed}
use Rattle.sql_tables.specs.Texts.{stage}
use Rattle.sql_rows.specs.Content.{tables_content}
use Rattle.sql_keeper.specs.AddsBook.{BecomesBehind, BecomesDated, IsAdded, IsAddFault}
use Rattle.sql_keeper.specs.Books.{IsBookOf}
use Rattle.sql_keeper.specs.Creates.{IsNewBook}
use Rattle.sql_keeper.specs.Inside.{KeeperState, IsClean, clean_in, failed_in, tables_in}
use Rattle.sql_keeper.specs.Opened.{IsFresh, IsLeft, IsLeftRuled}
use Rattle.sql_keeper.specs.Shelves.{IsShelfOf}
use Rattle.sql_keeper.specs.Stops.{IsCommitWhole, MayLeave, trees_in}
use Rattle.sql_keeper.specs.declared.add_fault.AddFault.{AddFault}
use Rattle.sql_keeper.specs.declared.add_fault.AddFault.TheVariants.{Store as OfStore}

-- a book is added to the shelf, to what the keeper knows of it and to the tables, or to none of
-- them; a stop leaves the rows before it or with the book
pub record AddsBookSpelled {S A : Type 0} (g : Ghosts S) (text : BookText) (from : Moment)
    (old new : KeeperState S) (before after : Shelf) (result : Result A AddFault) : Type 0 where
  pub added : clean_in g new →
      OnOk result (IsAdded text from (tables_in g old).last before after)
  pub own : OnOk result ((b : Book) × IsBookOf text b
      × (new.shelf ≡ with_book old.shelf from b))
  pub numbered : OnOk result (count old.shelf ≡ count before)
  pub done : clean_in g new → OnOk result
      (BecomesDated (suc (count before)) from text (trees_in g old) (trees_in g new))
  pub shelf : OnErr result (after ≡ before)
  pub kept : OnErr result (new.shelf ≡ old.shelf)
  pub tables : clean_in g new → OnErr result (tables_in g new ≡ tables_in g old)
  pub told : clean_in g new →
      IfErr result (IsAddFault text from before (tables_in g old).last)
  pub cleanness : clean_in g new → clean_in g old
  pub counts : failed_in old ≤ failed_in new
  -- a fault of the store is counted
  pub cause : IsErrOf result (OfStore Failed) →
      min (failed_in old + 1) max_failures ≤ failed_in new
  pub whole : IsCommitWhole g old new (BecomesDated (suc (count before)) from text (trees_in g old))
  pub follows : IsCommitWhole g old new (BecomesBehind old.shelf before from text (trees_in g old))

-- the tables were made in a database that had none, and hold nothing but what is kept once
pub record IsCreatedSpelled {S : Type 0} (g : Ghosts S) (text : BookText) (old : Held S)
    (k : KeeperState S) (shelf : Shelf) : Type 0 where
  pub fresh : IsFresh k shelf
  pub alone : shelf.later ≡ []
  pub of_text : k.text ≡ text
  pub blank : old.schema ≡ stage 0
  pub plain : old.in_transaction ≡ false
  pub clean : HasCleanDisk (state g k.connection) → IsClean (state g k.connection)
  pub made : HasCleanDisk (state g k.connection) → IsNewBook text (trees_in g k)
  pub tables : HasCleanDisk (state g k.connection) → tables_in g k ≡ no_tables
  -- as an open finds them again
  pub left : HasCleanDisk (state g k.connection) → IsLeft text (trees_in g k)
  -- and as the commands of this system leave them
  pub ruled : HasCleanDisk (state g k.connection) → IsLeftRuled text (trees_in g k)
  pub survives : Survives (state g old) (state g k.connection) (IsNewBook text)

-- a keeper that was made after a stop of an older one shows what that stop left, with the text of
-- the older one and the shelf of both, and no failure yet; where the older one was clean, with all
-- that it knew
pub record IsFoundAfterSpelled {S T : Type 0} (g : Ghosts S) (e : Ghosts T) (old : KeeperState S)
    (new : KeeperState T) (shelf : Shelf) : Type 0 where
  pub honest : HasCleanDisk (state g old.connection)
  pub may : MayLeave g old (trees_in e new)
  pub left : IsLeftRuled new.text (trees_in e new)
  pub text : new.text ≡ old.text
  pub own : new.shelf ≡ shelf
  pub uncounted : new.failures ≡ 0
  pub books : IsShelfOf old.text (tables_content (trees_in e new)).books shelf
  pub rests : IsClean (state g old.connection) → (trees_in e new ≡ trees_in g old)
      × (shelf ≡ old.shelf) × (new.last ≡ old.last)
