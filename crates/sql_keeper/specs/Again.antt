-- A database that is opened again.
-- Source: profile.
use Rattle.std.specs.Prelude.{◌≡◌, ◌<◌, ◌⊎◌, Option, Some, None, OnOk, Result}
use Rattle.std.specs.Str.{IsUtf8}
use Rattle.units.specs.Words.{Moment, BookNumber, no_end}
use Rattle.identifiers.specs.Words.{VoucherCode}
use Rattle.shelves.specs.Words.{BookText}
use Rattle.shelves.specs.Shelves.{Shelf}
use Rattle.sqlite_trees.specs.declared.store.Store.{Ghosts}
use Rattle.sqlite_trees.specs.Tree.{Trees}
use Rattle.sqlite_trees.specs.View.{IsClean as IsHonest}
use Rattle.sqlite.specs.Effect.{IsDatabase}
use Rattle.sqlite.specs.Held.{Held, state}
use Rattle.sqlite.specs.State.{HasCleanDisk}
use Rattle.sqlite.specs.Steps.{IsFresh as IsFreshStore}
use Rattle.sql_rows.specs.Content.{tables_content}
use Rattle.sql_tables.specs.declared.fault.OpenFault.{OpenFault}
use Rattle.keepers.specs.Change.{changed}
use Rattle.keepers.specs.declared.fault.StoreFault.{StoreFault}
use Rattle.keepers.specs.declared.loaded.Change.{Change}
use Rattle.voucher_rules.specs.declared.terms.VoucherTerms.{VoucherTerms}
use Rattle.sql_keeper.specs.Content.{Names, shelf_names}
use Rattle.sql_keeper.specs.AddsBook.{BecomesDated, MayFollow}
use Rattle.sql_keeper.specs.Additions.{BecomesAdded}
use Rattle.sql_keeper.specs.Causes.{IsStores}
use Rattle.sql_keeper.specs.Commits.{Becomes}
use Rattle.sql_keeper.specs.Creates.{IsNewBook}
use Rattle.sql_keeper.specs.Inside.{KeeperState, IsClean, IsKeeper, names_in, tables_in}
use Rattle.sql_keeper.specs.Left.{IsHeld}
use Rattle.sql_keeper.specs.Opened.{IsFresh, IsKept, IsLeft, IsLeftRuled}
use Rattle.sql_keeper.specs.Opened.{IsNotOpened, IsOpened}
use Rattle.sql_keeper.specs.Shelves.{HasOneBook, IsShelfOf}
use Rattle.sql_keeper.specs.Stops.{IsCommitWhole, MayLeave, trees_in}
use Rattle.sql_keeper.specs.Sweeps.{BecomesSwept}

-- a new book is left, and what a commit, an addition or a sweep makes of tables that are left is
-- left again; so is what a book more makes of them
-- rule: database-opened.left
pub record AreLeftAgain : Type 0 where
  pub made : (text : BookText) (new : Trees) → IsUtf8 text → HasOneBook text → IsNewBook text new →
      IsLeft text new
  pub committed : (names : Names) (text : BookText) (change : Change) (old new : Trees)
      → IsLeft text old → Becomes names text change old new → IsLeft text new
  pub added : (text : BookText) (code : VoucherCode) (terms : VoucherTerms) (t : Moment)
      (old new : Trees)
      → IsLeft text old → BecomesAdded text code terms t old new → IsLeft text new
  pub swept : (names : Names) (text : BookText) (shelf : Shelf) (t : Moment) (old new : Trees)
      → IsLeft text old → BecomesSwept names text shelf t old new → IsLeft text new
  pub dated : (text more : BookText) (n : BookNumber) (from : Moment) (old new : Trees) →
      IsLeft text old
      → MayFollow text more n from old → BecomesDated n from more old new → IsLeft text new

-- the rows of a new book are in their rules; those that a commit, an addition or a sweep makes of
-- rows in their rules are so again, by the names of the same books; so are those that a book more
-- makes of them, which begins before the end of all moments
-- rule: stop-ruled
pub record AreLeftRuledAgain : Type 0 where
  pub made : (text : BookText) (new : Trees) → IsUtf8 text → HasOneBook text → IsNewBook text new →
      IsLeftRuled text new
  pub committed : (text : BookText) (shelf : Shelf) (change : Change) (old new : Trees)
      → IsLeftRuled text old → IsShelfOf text (tables_content old).books shelf
      → Becomes (shelf_names shelf) text change old new → IsLeftRuled text new
  pub added : (text : BookText) (code : VoucherCode) (terms : VoucherTerms) (t : Moment)
      (old new : Trees)
      → IsLeftRuled text old → BecomesAdded text code terms t old new → IsLeftRuled text new
  pub swept : (text : BookText) (shelf prices : Shelf) (t : Moment) (old new : Trees)
      → IsLeftRuled text old → IsShelfOf text (tables_content old).books shelf
      → BecomesSwept (shelf_names shelf) text prices t old new → IsLeftRuled text new
  pub dated : (text more : BookText) (n : BookNumber) (from : Moment) (old new : Trees)
      → IsLeftRuled text old → MayFollow text more n from old → from < no_end
      → BecomesDated n from more old new → IsLeftRuled text new

-- the rows of a database are those of one shelf, so whoever opens it again finds the one that was
-- answered before
-- rule: database-opened.shelves-one: the rows of a database are those of one shelf at most, so an
--   open finds the shelf that was answered before
abbrev pub AreShelvesOne : Type 0
AreShelvesOne = (trees : Trees) (text more : BookText) (s t : Shelf) → IsKept trees text
    → IsKept trees more → IsShelfOf text (tables_content trees).books s
    → IsShelfOf more (tables_content trees).books t → s ≡ t

-- the connection that was opened shows what was left, and each row in its rules, so no fault is
-- reported of it but the store's or memory's
-- rule: stop-ruled, database-opened.not-opened
abbrev pub IsFoundAgain : {S : Type 0} → Ghosts S → Held S → Held S → BookText → OpenFault → Type 0
IsFoundAgain g old new text fault = IsLeftRuled text (state g old).now.trees
    → IsDatabase (state g old).now → HasCleanDisk (state g new) → IsNotOpened g old new fault
    → IsStores fault

-- ---- after a stop

-- a keeper that was made after a stop of an older one shows what that stop left, with the text of
-- the older one and the shelf of both, and no failure yet; where the older one was clean, with all
-- that it knew
-- rule: stop-opened
pub record IsFoundAfter {S T : Type 0} (g : Ghosts S) (e : Ghosts T) (old : KeeperState S)
    (new : KeeperState T) (shelf : Shelf) : Type 0 where
  pub honest : HasCleanDisk (state g old.connection)
  pub may : MayLeave g old (trees_in e new)
  pub fresh : IsFresh new shelf
  pub held : IsHeld new.text shelf new.last (trees_in e new)
  pub text : new.text ≡ old.text
  pub rests : IsClean (state g old.connection) → (trees_in e new ≡ trees_in g old)
      × (shelf ≡ old.shelf) × (new.last ≡ old.last)

-- what a stop of a keeper leaves is opened again: whoever opens a connection that shows it finds
-- it, and refuses it for no row
-- rule: stop-opened: what a stop leaves is opened again, with its rows, under the same text and
--   books, and is refused for no row
abbrev pub AreOpenedAgain : {S T : Type 0} → Ghosts S → Ghosts T → Type 0
AreOpenedAgain {S} {T} g e =
    (old : KeeperState S) (shown : Held T) → IsKeeper g old → HasCleanDisk (state g old.connection)
    → MayLeave g old (state e shown).now.trees → IsDatabase (state e shown).now
    → ((new : KeeperState T) (shelf : Shelf) → IsOpened e shown new shelf
    → HasCleanDisk (state e new.connection) → IsFoundAfter g e old new shelf)
    × ((left : Held T) (fault : OpenFault) → IsNotOpened e shown left fault
    → HasCleanDisk (state e left) → IsStores fault)

-- what a call writes is whole when the database is opened again after a stop at its exit: the rows
-- are those before it or with it
abbrev pub IsStoppedWhole : {S T : Type 0} → Ghosts S → Ghosts T → KeeperState S → KeeperState S →
    KeeperState T → Shelf → (Trees → Type 0) → Type 0
IsStoppedWhole g e old mid new shelf Written =
    IsKeeper g old → IsClean (state g old.connection) → HasCleanDisk (state g mid.connection)
    → IsCommitWhole g old mid Written → IsFoundAfter g e mid new shelf
    → (trees_in e new ≡ trees_in g old) ⊎ Written (trees_in e new)

-- so is a change, a voucher, a sweep and a book
-- rule: stop: a command that was answered is found again after a stop, and one that was being
--   written is there whole or not at all
-- rule: stop-command: a command that is stopped at its exit and opened again is whole, and there
--   if it was answered
pub record AreStoppedWhole {S T : Type 0} (g : Ghosts S) (e : Ghosts T) : Type 0 where
  pub changed : (old mid : KeeperState S) (new : KeeperState T) (shelf : Shelf) (change : Change)
      → IsStoppedWhole g e old mid new shelf
      (Becomes (names_in old) old.text change (trees_in g old))
  pub added : (old mid : KeeperState S) (new : KeeperState T) (shelf : Shelf) (code : VoucherCode)
      (terms : VoucherTerms) (t : Moment)
      → IsStoppedWhole g e old mid new shelf (BecomesAdded old.text code terms t (trees_in g old))
  pub swept : (old mid : KeeperState S) (new : KeeperState T) (shelf prices : Shelf) (t : Moment)
      → IsStoppedWhole g e old mid new shelf
      (BecomesSwept (names_in old) old.text prices t (trees_in g old))
  pub dated : (old mid : KeeperState S) (new : KeeperState T) (shelf : Shelf) (n : BookNumber)
      (from : Moment)
      (text : BookText)
      → IsStoppedWhole g e old mid new shelf (BecomesDated n from text (trees_in g old))

-- ---- of one store

-- the store was just opened, and has what a stop of the connection left
pub record IsLeftFresh {S : Type 0} (g : Ghosts S) (old : Held S) (store : S) : Type 0 where
  pub honest : HasCleanDisk (state g old)
  pub may : (state g old).may_leave (g.view store).trees
  pub fresh : IsFreshStore (g.view store)

-- the connection shows what the store has
pub record IsShownBy {S : Type 0} (g : Ghosts S) (store : S) (new : Held S) : Type 0 where
  pub honest : IsHonest (g.view store)
  pub trees : (state g new).now.trees ≡ (g.view store).trees
  pub sound : IsDatabase (state g new).now

-- the connection shows what a stop of another one left
pub record ShowsStopped {S : Type 0} (g : Ghosts S) (old new : Held S) : Type 0 where
  pub honest : HasCleanDisk (state g old)
  pub may : (state g old).may_leave (state g new).now.trees
  pub sound : IsDatabase (state g new).now

-- no row is why it wasn't opened, if the disk of the connection that is left returned what was
-- written
abbrev pub IsRefusedAfter : {S : Type 0} → Ghosts S → OpenFault → Option (Held S) → Type 0
IsRefusedAfter g fault None = IsStores fault
IsRefusedAfter g fault (Some left) = HasCleanDisk (state g left) → IsStores fault

-- after a change that was stopped at its exit the rows are those before it or with it, whole, under
-- the same text and shelf; with it, if it was acknowledged
-- rule: stop-command
pub record IsChangedWhole {S A : Type 0} (g : Ghosts S) (change : Change) (old new : KeeperState S)
    (answered : Result A StoreFault) : Type 0 where
  pub either : (trees_in g new ≡ trees_in g old)
      ⊎ Becomes (names_in old) old.text change (trees_in g old) (trees_in g new)
  pub text : new.text ≡ old.text
  pub shelf : new.shelf ≡ old.shelf
  pub acknowledged : OnOk answered (tables_in g new ≡ changed change (tables_in g old))
