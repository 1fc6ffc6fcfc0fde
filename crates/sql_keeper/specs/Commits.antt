-- A change, committed whole or not at all.
-- Source: profile.
use Rattle.std.specs.Prelude.{◌≡◌, ◌≤◌, Some, IsTrue, OnOk, OnErr, Result, is_some}
use Rattle.units.specs.Words.{Moment, latest_moment}
use Rattle.shelves.specs.Words.{BookText}
use Rattle.shelves.specs.Shelves.{Shelf}
use Rattle.sqlite_trees.specs.Tree.{Trees}
use Rattle.sqlite_trees.specs.Objects.{catalog_tree}
use Rattle.sqlite.specs.State.{State, HasCleanDisk, Survives}
use Rattle.keepers.specs.declared.loaded.Change.{Change}
use Rattle.keepers.specs.Change.{changed}
use Rattle.sql_tables.specs.Statements.{AreStored, HasIdleTables, IsStill}
use Rattle.sql_rows.specs.Content.{TablesContent, tables_content}
use Rattle.sql_rows.specs.Makes.{Commits, Turns}
use Rattle.sql_rows.specs.Plain.{ArePlain}
use Rattle.sql_rules.specs.Ruled.{IsInRules}
use Rattle.sql_keeper.specs.Content.{last_in, shelf_names, tables_of, Names}
use Rattle.sql_keeper.specs.Tidy.{IsTidy}
use Rattle.sql_keeper.specs.Writes.{meta_at}

-- outside a transaction: the change is committed, or nothing is changed, and a stop leaves what was
-- left before or the change
pub record Transacts {A E : Type 0} (change : TablesContent → TablesContent) (old new : State)
    (result : Result A E) : Type 0
  where
    pub done : HasCleanDisk new →
        OnOk result (IsTrue old.is_open × IsTrue new.is_open × Commits change old new)
    pub kept : HasCleanDisk new → IsTrue new.is_open → OnErr result (IsStill old new)
    pub idle : HasIdleTables new
    pub survives : Survives old new (λ db. IsTrue old.is_open × Turns change old.now.trees db)

-- the tables are those that were there: the catalog is the same, no rowid comes twice, and where rows
-- were as the statements write them, they are
pub record StaysTabled (old new : Trees) : Type 0 where
  pub catalog : new catalog_tree ≡ old catalog_tree
  pub stored : AreStored new
  pub plain : ArePlain old → ArePlain new

-- and they would be found again, at this moment: the version and the books are the same, and the
-- moment is in the range of moments
pub record StandsAt (text : BookText) (t : Moment) (old new : Trees) : Type 0 where
  pub tabled : StaysTabled old new
  pub meta : (tables_content new).meta ≡ Some (meta_at text t)
  pub last : t ≤ latest_moment
  -- it isn't before the last one
  pub later : last_in (tables_content old).meta ≤ t
  pub books : (tables_content new).books ≡ (tables_content old).books

-- the tables hold the change and nothing else, and would be found again
-- rule: tidy-rows, database-writes.commits-change, rows-ruled.ruled-change
pub record Becomes (names : Names) (text : BookText) (change : Change) (old new : Trees)
    : Type 0 where
  pub tables : tables_of names (tables_content new) ≡
      changed change (tables_of names (tables_content old))
  -- where no row was without a meaning, none is
  pub tidy : IsTidy names (tables_content old) → IsTidy names (tables_content new)
  -- where all was in its rules, by the books of these names, all is
  pub rules : (shelf : Shelf) → names ≡ shelf_names shelf
      → IsTrue (is_some (tables_content old).meta) → IsInRules shelf (tables_content old)
      → IsInRules shelf (tables_content new)
  pub stands : StandsAt text change.moment old new

-- what the tables become is committed whole, or they are as before; a stop leaves one or the other
pub record CommitsWhole {A E : Type 0} (Become : Trees → Trees → Type 0) (old new : State)
    (result : Result A E) : Type 0 where
  pub done : HasCleanDisk new
      → OnOk result (IsTrue old.is_open × IsTrue new.is_open × Become old.now.trees new.now.trees)
  pub err : HasCleanDisk new → IsTrue new.is_open → OnErr result (IsStill old new)
  pub idle : HasIdleTables new
  -- only a fault of the disk shuts the connection
  pub survives : Survives old new (λ db. IsTrue old.is_open → Become old.now.trees db)

-- the same over a connection that may be shut: where it is, a stop leaves what it left before
-- rule: stop-commit
pub record CommitsStanding {A E : Type 0} (Become : Trees → Trees → Type 0) (old new : State)
    (result : Result A E) : Type 0 where
  pub commits : CommitsWhole Become old new result
  pub survives : Survives old new (λ db. IsTrue old.is_open × Become old.now.trees db)

-- so a change is
-- rule: database-writes.commits-change: a commit into a database is made whole or not at all
abbrev pub CommitsChange : {A E : Type 0} → Names → BookText → Change → State → State → Result A E →
    Type 0
CommitsChange names text change = CommitsWhole (Becomes names text change)
