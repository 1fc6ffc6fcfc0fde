-- What a keeper over a database is, what it holds, and when its store is clean.
-- Source: profile.
use Rattle.std.specs.Prelude.{◌≡◌, ◌≤◌, ◌⊎◌, ℕ, false, List, IsTrue, min, refl}
use Rattle.std.specs.Coded.{Coded, code_by, coded×, coded_ℕ, coded_list}
use Rattle.sqlite_trees.specs.Tree.{Trees}
use Rattle.sqlite_trees.specs.declared.store.Store.{Ghosts}
use Rattle.sqlite.specs.Held.{Held, held_code, state}
use Rattle.sqlite.specs.State.{State, HasCleanDisk}
use Rattle.shelves.specs.Shelves.{Shelf}
use Rattle.shelves.specs.contracts.shelf.TariffShelf as tariff_shelf
use Rattle.sql_tables.specs.Statements.{HasIdleTables}
use Rattle.sql_rows.specs.Content.{tables_content}
use Rattle.keepers.specs.Faults.{max_failures}
use Rattle.keepers.specs.Tables.{Tables}
use Rattle.sql_keeper.specs.Content.{tables_of, shelf_names, Names}
use Rattle.sql_keeper.specs.Left.{IsHeld, IsLeftRuled}

pub record KeeperState (S : Type 0) : Type 0 where
  pub connection : Held S
  -- the books
  pub shelf : Shelf
  -- the text of the first book
  pub text : List ℕ
  -- the moment of the last accepted command
  pub last : ℕ
  -- how many calls met a failure of the store
  pub failures : ℕ

abbrev pub keeper_code : {S : Type 0} → Coded S → Coded (KeeperState S)
keeper_code {S} store =
    code_by (Held S × (Shelf × (List ℕ × (ℕ × ℕ))))
    (coded× (held_code store) (coded× tariff_shelf.the_row.coded
    (coded× (coded_list coded_ℕ) (coded× coded_ℕ coded_ℕ))))
    (λ k. (k.connection, (k.shelf, (k.text, (k.last, k.failures)))))
    (λ p. record {
      connection = p.0;
      shelf = p.1.0;
      text = p.1.1.0;
      last = p.1.1.1.0;
      failures = p.1.1.1.1;
    })
    (λ _. refl)

-- the disk has returned what was written, and where it failed a call the connection is open still
-- rule: database-reads.tables-of
pub record IsClean (s : State) : Type 0 where
  pub disk : HasCleanDisk s
  pub open_still : (s.faults ≡ 0) ⊎ IsTrue s.is_open

-- nothing but a failure of the disk shuts the connection
abbrev pub StaysOpen : State → Type 0
StaysOpen s = HasCleanDisk s → s.faults ≡ 0 → IsTrue s.is_open

-- what a keeper keeps between calls: no transaction is open, and the tables are there; an open
-- would find them again with its text, its shelf and its last moment, and an open after a stop,
-- also after a failure that shut the connection, with its text; no row is why it would be refused
-- rule: database-reads.tables-of, database-reads.held, stop-ruled
pub record IsKeeper {S : Type 0} (g : Ghosts S) (k : KeeperState S) : Type 0 where
  pub bounded : k.failures ≤ max_failures
  pub plain : k.connection.in_transaction ≡ false
  pub idle : HasIdleTables (state g k.connection)
  pub stays : StaysOpen (state g k.connection)
  pub held : HasCleanDisk (state g k.connection) → IsTrue (state g k.connection).is_open
      → IsHeld k.text k.shelf k.last (state g k.connection).now.trees
  pub found : HasCleanDisk (state g k.connection) → (db : Trees)
      → (state g k.connection).may_leave db → IsLeftRuled k.text db

-- ---- what the laws of keepers speak of

-- the names of the periods of each book
abbrev pub names_in : {S : Type 0} → KeeperState S → Names
names_in k = shelf_names k.shelf

abbrev pub tables_in : {S : Type 0} → Ghosts S → KeeperState S → Tables
tables_in g k = tables_of (names_in k) (tables_content (state g k.connection).now.trees)

-- a keeper's count isn't above the highest
abbrev pub failed_in : {S : Type 0} → KeeperState S → ℕ
failed_in k = min k.failures max_failures

abbrev pub clean_in : {S : Type 0} → Ghosts S → KeeperState S → Type 0
clean_in g k = IsClean (state g k.connection)
