-- A book that is added behind those of a shelf, committed whole or not at all.
-- Source: profile.
use Rattle.std.specs.Prelude.{◌≡◌, ◌≤◌, ◌<◌, ℕ, suc, ◌++◌, List, [], ◌∷◌, Some, None, length}
use Rattle.std.specs.Prelude.{Result, ◌⊎◌, Ok, Err, IfErr, IsTrue, OnErr, OnOk}
use Rattle.units.specs.Words.{Moment, GroupId, BookNumber, no_end, latest_moment}
use Rattle.identifiers.specs.Words.{SessionName, AccountName}
use Rattle.shelves.specs.Words.{BookText}
use Rattle.sqlite_trees.specs.declared.store.Store.{Ghosts}
use Rattle.sqlite_trees.specs.Tree.{Trees}
use Rattle.sqlite.specs.State.{State, HasCleanDisk}
use Rattle.tariffs.specs.Books.{Book}
use Rattle.shelves.specs.Shelves.{IsShelf, Shelf, count, with_book}
use Rattle.shelves.specs.Succession.{shelf_fault}
use Rattle.shelves.specs.declared.fault.ShelfFault.{ShelfFault}
use Rattle.shelves.specs.declared.fault.ShelfFault.TheVariants.{Memory}
use Rattle.keepers.specs.declared.fault.StoreFault.{StoreFault}
use Rattle.keepers.specs.Faults.{HasCause}
use Rattle.keepers.specs.declared.fault.StoreFault.TheVariants.{Memory as NoMemory}
use Rattle.sql_rows.specs.Content.{TablesContent, tables_content, with_book_row}
use Rattle.sql_rules.specs.Ruled.{IsInRules, is_book}
use Rattle.sql_keeper.specs.Books.{IsBookFault, IsBookOf}
use Rattle.sql_keeper.specs.Commits.{CommitsWhole, StaysTabled}
use Rattle.sql_keeper.specs.Content.{Names, last_in, tables_of}
use Rattle.sql_keeper.specs.Inside.{KeeperState, clean_in, failed_in, tables_in}
use Rattle.sql_keeper.specs.Shelves.{IsShelfOf}
use Rattle.sql_keeper.specs.Tidy.{IsTidy}
use Rattle.sql_keeper.specs.Stops.{IsCommitWhole, trees_in}
use Rattle.sql_keeper.specs.declared.add_fault.AddFault.{AddFault}
use Rattle.sql_keeper.specs.declared.add_fault.AddFault.TheVariants.{Book as OfBook}
use Rattle.sql_keeper.specs.declared.add_fault.AddFault.TheVariants.{Shelf as OfShelf}
use Rattle.sql_keeper.specs.declared.add_fault.AddFault.TheVariants.{Store as OfStore}

-- ---- what is written

-- a row more: the number of the book, its first moment and its text
abbrev pub with_dated : BookNumber → Moment → BookText → TablesContent → TablesContent
with_dated n from text c = with_book_row n (record { starts = from; content = text }) c

-- each reservation goes by a book of a number up to this one
abbrev pub AreBooksKnown : BookNumber → TablesContent → Type 0
AreBooksKnown n c = (a : AccountName) (s : SessionName) (g : GroupId) (m : BookNumber) →
    (c.rows a).grant_books s g ≡ Some m → m ≤ n

-- the tables hold what they held, by the names of the books with those of the new one, if each
-- reservation goes by a book that was there; they would be found again: the catalog and what is
-- kept once are the same, and no rowid comes twice
-- rule: book-added
pub record BecomesDated (n : BookNumber) (from : Moment) (text : BookText) (old new : Trees)
    : Type 0 where
  pub tables : (names : Names) (more : List (List ℕ)) → 1 ≤ length names
      → n ≡ suc (length names) → AreBooksKnown (length names) (tables_content old)
      → tables_of (names ++ more ∷ []) (tables_content new) ≡ tables_of names (tables_content old)
  -- where no row was without a meaning, none is
  pub tidy : (names : Names) (more : List (List ℕ)) → IsTidy names (tables_content old) →
      IsTidy (names ++ more ∷ []) (tables_content new)
  -- where all was in its rules, all is, by the books with one of the new text: if the row of it is
  pub rules : (shelf : Shelf) (b : Book)
      → IsTrue (is_book n (record { starts = from; content = text }))
      → IsInRules shelf (tables_content old)
      → IsInRules (with_book shelf from b) (tables_content new)
  pub books : (tables_content new).books ≡ (with_dated n from text (tables_content old)).books
  pub meta : (tables_content new).meta ≡ (tables_content old).meta
  pub tabled : StaysTabled old new

-- the text is a book's that makes a shelf with those of the shelf that the tables keep, behind them
-- and under the next number, from a moment in the range of moments on
pub record MayFollow (text more : BookText) (n : BookNumber) (from : Moment) (trees : Trees)
    : Type 0 where
  pub shelf : Shelf
  pub is : IsShelfOf text (tables_content trees).books shelf
  pub book : Book
  pub read : IsBookOf more book
  pub number : n ≡ suc (count shelf)
  pub range : from ≤ latest_moment
  pub behind : IsShelf (with_book shelf from book)

-- the tables with the book, which may follow the keeper's books and begins before the end of all
-- moments; the shelf had as many
-- rule: book-added
pub record BecomesBehind (own before : Shelf) (from : Moment) (text : BookText) (old new : Trees)
    : Type 0 where
  pub becomes : BecomesDated (suc (count before)) from text old new
  pub book : Book
  pub read : IsBookOf text book
  pub behind : IsShelf (with_book own from book)
  pub counts : count own ≡ count before
  pub soon : from < no_end

-- ---- why a book isn't added

-- a fault of the text
abbrev pub IsTextFault : BookText → AddFault → Type 0
IsTextFault text (OfBook fault) = IsBookFault text fault
IsTextFault text (OfShelf fault) = ⊥
IsTextFault text (OfStore fault) = ⊥

-- when a fault is reported of a text, over a shelf and the moment of the last accepted command:
-- first the text's own, then the shelf's
abbrev pub IsAddFault : BookText → Moment → Shelf → Moment → AddFault → Type 0
IsAddFault text from s last (OfBook fault) = IsBookFault text fault
IsAddFault text from s last (OfShelf fault) = (b : Book) × IsBookOf text b
    × (¬ (fault ≡ Memory) → shelf_fault s from b last ≡ Some fault)
IsAddFault text from s last (OfStore fault) = (b : Book) × IsBookOf text b

-- the book of the text is behind those of the shelf
-- rule: book-added
pub record IsAdded (text : BookText) (from last : Moment) (old new : Shelf) : Type 0 where
  pub book : Book
  pub read : IsBookOf text book
  pub free : shelf_fault old from book last ≡ None
  pub shelf : new ≡ with_book old from book

-- the book of a text was added behind those of a shelf, which had no fault of it, and to its tables
-- rule: book-added, database-words
pub record IsAddedBehind (text : BookText) (from : Moment) (before after : Shelf)
    (old new : Trees) : Type 0 where
  pub added : IsAdded text from (last_in (tables_content old).meta) before after
  pub becomes : BecomesDated (suc (count before)) from text old new

-- the book is behind those of the keeper's own shelf, which had as many as the other
pub record IsBehindOwn (text : BookText) (from : Moment) (before own own' : Shelf) : Type 0 where
  pub counts : count own ≡ count before
  pub book : Book
  pub read : IsBookOf text book
  pub is : own' ≡ with_book own from book

-- the book is behind those of the shelf, which had no fault of it
pub record IsBehind (from : Moment) (b : Book) (last : Moment) (old new : Shelf) : Type 0 where
  pub free : shelf_fault old from b last ≡ None
  pub shelf : new ≡ with_book old from b
  pub is : IsShelf new

-- the book is behind those of two shelves, which had as many, and it begins before the end of all
-- moments
pub record IsOnBoth (from : Moment) (b : Book) (before after own new : Shelf) : Type 0 where
  pub shelf : after ≡ with_book before from b
  pub own_is : new ≡ with_book own from b
  pub is : IsShelf new
  pub counts : count own ≡ count before
  pub soon : from < no_end

-- both shelves are as they were before their last book was added
pub record AreTakenBack (before after own new : Shelf) : Type 0 where
  pub shelf : (s : Shelf) (from : Moment) (b : Book) → before ≡ with_book s from b → after ≡ s
  pub own_is : (s : Shelf) (from : Moment) (b : Book) → own ≡ with_book s from b → new ≡ s

-- ---- what is done of it

-- whether a book was added, with a store fault where it wasn't
abbrev pub was_added : {A E : Type 0} → Result (Result A ShelfFault) E → Result A StoreFault
was_added (Ok (Ok x)) = Ok x
was_added (Ok (Err fault)) = Err NoMemory
was_added (Err fault) = Err NoMemory

-- why the shelf refused a book
abbrev pub IfRefused : {A E : Type 0} → Result (Result A ShelfFault) E → (ShelfFault → Type 0) →
    Type 0
IfRefused (Ok (Ok x)) P = Unit {0}
IfRefused (Ok (Err fault)) P = P fault
IfRefused (Err fault) P = Unit {0}

abbrev pub add_told : {A : Type 0} → Result (Result A ShelfFault) StoreFault → Result A AddFault
add_told (Ok (Ok x)) = Ok x
add_told (Ok (Err fault)) = Err (OfShelf fault)
add_told (Err fault) = Err (OfStore fault)

-- the moment of the last accepted command
abbrev pub last_at : State → Moment
last_at s = last_in (tables_content s.now.trees).meta

-- the tables with the book, which may follow the keeper's and begins before the end of all moments;
-- the keeper has as many as the shelf before
pub record IsLeftDated (from : Moment) (text : BookText) (b : Book) (before own : Shelf)
    (old : State) (db : Trees) : Type 0 where
  pub was_open : IsTrue old.is_open
  pub becomes : BecomesDated (suc (count before)) from text old.now.trees db
  pub behind : IsShelf (with_book own from b)
  pub counts : count own ≡ count before
  pub soon : from < no_end

-- a stop leaves what it left before, or the tables with the book
abbrev pub LeavesDated : Moment → BookText → Book → Shelf → Shelf → State → State → Type 0
LeavesDated from text b before own old new =
    HasCleanDisk new → (db : Trees) → new.may_leave db
    → old.may_leave db ⊎ IsLeftDated from text b before own old db

-- a book is added to two shelves and to the tables, or to none of them
pub record AddsToAll {A E : Type 0} (from : Moment) (text : BookText) (b : Book) (old new : State)
    (before after own own' : Shelf) (result : Result (Result A ShelfFault) E) : Type 0 where
  pub commits : CommitsWhole (BecomesDated (suc (count before)) from text) old new
      (was_added result)
  pub leaves : LeavesDated from text b before own old new
  pub free : HasCleanDisk new →
      OnOk (was_added result) (shelf_fault before from b (last_at old) ≡ None)
  pub both : OnOk (was_added result) (IsOnBoth from b before after own own')
  pub kept : OnErr (was_added result) ((after ≡ before) × (own' ≡ own))
  pub told : HasCleanDisk new → IfRefused result
      (λ fault. ¬ (fault ≡ Memory) → shelf_fault before from b (last_at old) ≡ Some fault)

-- no book was added: the fault says why, and the tables are as before
pub record IsNotAdded {S : Type 0} (g : Ghosts S) (text : BookText) (from : Moment) (before : Shelf)
    (old new : KeeperState S) (fault : AddFault) : Type 0 where
  pub told : IsAddFault text from before (tables_in g old).last fault
  pub tables : tables_in g new ≡ tables_in g old

-- of the faults that of the store alone: one of the text or of the shelf counts for nothing
abbrev pub of_store : {A : Type 0} → Result A AddFault → Result A StoreFault
of_store (Ok x) = Ok x
of_store (Err (OfBook fault)) = Err NoMemory
of_store (Err (OfShelf fault)) = Err NoMemory
of_store (Err (OfStore fault)) = Err fault

-- a book is added to the shelf, to what the keeper knows of it and to the tables, or to none of
-- them; a stop leaves the rows before it or with the book
-- rule: book-added: a book is added to the shelf and the tables, or to neither
pub record AddsBook {S A : Type 0} (g : Ghosts S) (text : BookText) (from : Moment)
    (old new : KeeperState S) (before after : Shelf) (result : Result A AddFault) : Type 0 where
  pub done : clean_in g new →
      OnOk result (IsAddedBehind text from before after (trees_in g old) (trees_in g new))
  pub own : OnOk result (IsBehindOwn text from before old.shelf new.shelf)
  pub told : clean_in g new → IfErr result (IsNotAdded g text from before old new)
  pub kept : OnErr result ((after ≡ before) × (new.shelf ≡ old.shelf))
  pub cleanness : clean_in g new → clean_in g old
  pub cause : HasCause (failed_in old) (failed_in new) (of_store result)
  pub left : IsCommitWhole g old new (BecomesBehind old.shelf before from text (trees_in g old))
