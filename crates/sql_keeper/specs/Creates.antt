-- The tables of a book, made whole or not at all.
-- Source: profile.
use Rattle.std.specs.Prelude.{◌≡◌, Some, None, true, IsTrue, OnOk, OnErr, Result}
use Rattle.units.specs.Words.{BookNumber}
use Rattle.shelves.specs.Words.{BookText}
use Rattle.shelves.specs.Shelves.{Shelf}
use Rattle.sqlite_trees.specs.Objects.{catalog_tree}
use Rattle.sqlite_trees.specs.Tree.{Trees}
use Rattle.sqlite_catalog.specs.Listing.{Lists}
use Rattle.sqlite.specs.State.{State, HasCleanDisk, Shows, Survives}
use Rattle.keepers.specs.Tables.{no_tables}
use Rattle.sql_tables.specs.Schema.{our_schema, latest}
use Rattle.sql_tables.specs.Statements.{AreStored, HasIdleTables, IsTabled, IsStill}
use Rattle.sql_rows.specs.Values.{Meta}
use Rattle.sql_rows.specs.Content.{tables_content}
use Rattle.sql_rows.specs.Plain.{ArePlain}
use Rattle.sql_rules.specs.Ruled.{IsInRules}
use Rattle.sql_keeper.specs.Content.{tables_of, Names}
use Rattle.sql_keeper.specs.Tidy.{IsTidy}

-- what is kept once of new tables: their version, the text of the book, and the first moment
abbrev pub first_meta : BookText → Meta
first_meta text = record { version = latest; book = text; last = 0 }

-- the tables of this book before any command: the database lists them, no rowid comes twice, and
-- there is no other book
-- rule: database-made
pub record IsNewBook (text : BookText) (trees : Trees) : Type 0 where
  pub lists : Lists (trees catalog_tree) our_schema
  pub stored : AreStored trees
  pub meta : (tables_content trees).meta ≡ Some (first_meta text)
  pub tables : (names : Names) → tables_of names (tables_content trees) ≡ no_tables
  pub books : (n : BookNumber) → (tables_content trees).books n ≡ None
  -- no row there is without a meaning
  pub tidy : (names : Names) → IsTidy names (tables_content trees)
  -- what is there is in its rules, by any books
  pub rules : (shelf : Shelf) → IsInRules shelf (tables_content trees)
  pub plain : ArePlain trees

-- inside a transaction
pub record BuildsBook (text : BookText) (old new : State) : Type 0 where
  pub made : IsNewBook text new.now.trees
  pub book : IsTabled new
  pub shows : Shows old new new.now old.committed true

-- outside a transaction: the tables are made, or nothing is changed, and a stop leaves what was
-- left before or the tables
-- rule: database-made: the tables of a new book are made whole or not at all
pub record CreatesBook {A E : Type 0} (text : BookText) (old new : State) (result : Result A E)
    : Type 0 where
  pub done : HasCleanDisk new →
      OnOk result (IsTrue new.is_open × HasIdleTables new × IsNewBook text new.now.trees)
  pub kept : HasCleanDisk new → IsTrue new.is_open → OnErr result (IsStill old new)
  pub survives : Survives old new (IsNewBook text)
