-- A keeper that was just made over a database, and what is left where none was made.
-- Source: profile.
use Rattle.std.specs.Prelude.{◌≡◌, false, [], IsTrue}
use Rattle.shelves.specs.Words.{BookText}
use Rattle.shelves.specs.Shelves.{Shelf}
use Rattle.sqlite_trees.specs.declared.store.Store.{Ghosts}
use Rattle.sqlite.specs.Held.{Held, state}
use Rattle.sqlite.specs.State.{HasCleanDisk, Survives}
use Rattle.sql_tables.specs.Statements.{IsStill}
use Rattle.sql_tables.specs.Schema.{latest}
use Rattle.sql_tables.specs.Texts.{stage}
use Rattle.sql_tables.specs.declared.fault.OpenFault.{OpenFault}
use Rattle.sql_rules.specs.Tables.{AreRuled}
use Rattle.sql_keeper.specs.Books.{IsBookOf}
use Rattle.sql_keeper.specs.Creates.{IsNewBook}
use Rattle.sql_keeper.specs.Faults.{IsCreateFault}
use Rattle.sql_keeper.specs.declared.create_fault.CreateFault.{CreateFault}
use Rattle.sql_keeper.specs.Inside.{KeeperState, IsClean, IsKeeper}
use Rattle.sql_keeper.specs.Left.{IsHeld}
pub use Rattle.sql_keeper.specs.Left.{IsKept, IsLeft, IsLeftRuled}
use Rattle.sql_keeper.specs.RuledOpening.{IsRowFault}
use Rattle.sql_keeper.specs.Stops.{trees_in}

-- a keeper before its first call, and the shelf on which the book of its text is first
pub record IsFresh {S : Type 0} (k : KeeperState S) (shelf : Shelf) : Type 0 where
  pub read : IsBookOf k.text shelf.first
  pub own : k.shelf ≡ shelf
  pub uncounted : k.failures ≡ 0

-- it holds what its tables keep, and an open would find them again with its text, its shelf and its
-- last moment
pub record Begins {S : Type 0} (g : Ghosts S) (k : KeeperState S) (shelf : Shelf) : Type 0 where
  pub fresh : IsFresh k shelf
  pub clean : HasCleanDisk (state g k.connection) → IsClean (state g k.connection)
  pub held : HasCleanDisk (state g k.connection) → IsHeld k.text shelf k.last (trees_in g k)

-- ---- made

-- the tables were made in a database that had none, and hold nothing but what is kept once
-- rule: database-made.created: a keeper over a new database holds nothing; a fault of the book is
--   reported before a table that is already there
pub record IsCreated {S : Type 0} (g : Ghosts S) (text : BookText) (old : Held S)
    (k : KeeperState S) (shelf : Shelf) : Type 0 where
  pub begins : Begins g k shelf
  pub alone : shelf.later ≡ []
  pub of_text : k.text ≡ text
  pub blank : old.schema ≡ stage 0
  pub plain : old.in_transaction ≡ false
  pub made : HasCleanDisk (state g k.connection) → IsNewBook text (trees_in g k)
  pub survives : Survives (state g old) (state g k.connection) (IsNewBook text)

-- nothing is changed; a stop leaves what it left before, or the new tables
-- rule: database-made.created
pub record IsNotCreated {S : Type 0} (g : Ghosts S) (text : BookText) (old new : Held S)
    (fault : CreateFault) : Type 0 where
  pub told : IsCreateFault text old.schema fault
  pub mode : new.in_transaction ≡ old.in_transaction
  pub still : HasCleanDisk (state g new) → IsTrue (state g new).is_open →
      IsStill (state g old) (state g new)
  pub survives : Survives (state g old) (state g new) (IsNewBook text)

-- ---- opened

-- the keeper holds what was there, each row is in its rules, and nothing was written
-- rule: database-opened: a keeper that is opened holds what was there, and opening writes nothing;
--   a connection that is given back shows what it showed while it is open
-- rule: rows-ruled.opened: an opening reads each row of a database once, and reports one that is
--   out of its rules as fault 3, after the faults of its tables, its version and its books
pub record IsOpened {S : Type 0} (g : Ghosts S) (old : Held S) (k : KeeperState S)
    (shelf : Shelf) : Type 0
  where
    pub begins : Begins g k shelf
    pub keeper : IsKeeper g k
    pub ruled : HasCleanDisk (state g k.connection) → AreRuled shelf latest (trees_in g k)
    pub still : HasCleanDisk (state g k.connection) → IsStill (state g old) (state g k.connection)
    pub survives : Survives (state g old) (state g k.connection) (λ _. ⊥)

-- while the connection is open it shows what it showed
-- rule: database-opened
abbrev pub LeavesStill : {S : Type 0} → Ghosts S → Held S → Held S → Type 0
LeavesStill g old new = HasCleanDisk (state g new) → IsTrue (state g new).is_open →
    IsStill (state g old) (state g new)

-- nothing was written; the fault is the store's or memory's, or the database has it, or a row
-- rule: database-opened.not-opened: what is left is opened without faults 1, 2, 3 and 6
-- rule: database-opened, rows-ruled.opened
pub record IsNotOpened {S : Type 0} (g : Ghosts S) (old new : Held S)
    (fault : OpenFault) : Type 0 where
  pub survives : Survives (state g old) (state g new) (λ _. ⊥)
  pub cause : HasCleanDisk (state g new) → IsRowFault fault (state g old).now
