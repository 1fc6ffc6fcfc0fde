-- What a statement does to a connection, by the content of the tables.
-- Source: profile.
use Rattle.std.specs.Prelude.{◌≡◌, ℕ, List, Bool, true, false, not, IsTrue, Result, Ok, IfOk}
use Rattle.std.specs.Prelude.{if◌then◌else◌}
use Rattle.sqlite_value.specs.Order.{Row}
use Rattle.sqlite_trees.specs.Objects.{catalog_tree}
use Rattle.sqlite_trees.specs.Tree.{Trees}
use Rattle.sqlite.specs.State.{State, ExecutesInside, HasCleanDisk, Shows}
use Rattle.sql_tables.specs.Statements.{AreStored, Attempts, IsTabled, IsIdle}
use Rattle.sql_rows.specs.Content.{TablesContent, tables_content}
use Rattle.sql_rows.specs.Plain.{ArePlain}

-- the trees after have the content that the change makes of that before, and the same catalog; no
-- rowid comes twice there, and rows are as the statements write them if they were
pub record Turns (change : TablesContent → TablesContent) (old new : Trees) : Type 0 where
  pub content : tables_content new ≡ change (tables_content old)
  pub catalog : new catalog_tree ≡ old catalog_tree
  pub stored : AreStored new
  pub plain : ArePlain old → ArePlain new

-- a statement has run with these parameters, whatever number of rows it reports
pub record HasRun (text : List ℕ) (params : Row) (old new : State) : Type 0 where
  pub count : ℕ
  pub ran : ExecutesInside 0 text params old new (Ok count)

-- inside a transaction
pub record Makes (change : TablesContent → TablesContent) (old new : State) : Type 0 where
  pub turns : Turns change old.now.trees new.now.trees
  pub book : IsTabled new
  pub shows : Shows old new new.now old.committed true

-- the connection was open if it is, and if it was, the change is made: a list of no rows asks
-- nothing of it
pub record MakesIfOpen (change : TablesContent → TablesContent) (old new : State) : Type 0 where
  pub was_open : IsTrue new.is_open → IsTrue old.is_open
  pub made : IsTrue old.is_open → Makes change old new

-- nothing was in the place of the change, and it is made
-- rule: statements-of-tables.with-session-row
pub record Adds (stands : TablesContent → Bool) (change : TablesContent → TablesContent)
    (old new : State) : Type 0 where
  pub makes : Makes change old new
  pub none : stands (tables_content old.now.trees) ≡ false

-- the change is made where nothing was in its place, and it is said whether anything was
pub record AddsIfNone {E : Type 0} (stands : TablesContent → Bool)
    (change : TablesContent → TablesContent)
    (old new : State) (result : Result Bool E) : Type 0 where
  pub makes : Attempts (Makes (λ c. if stands c then c else change c)) old new result
  pub told : HasCleanDisk new
      → IfOk result (λ added. added ≡ not (stands (tables_content old.now.trees)))

-- the change is made where something is in its place, and it is said whether anything was
-- rule: statements-of-tables.tables-content
pub record ReplacesIfSome {E : Type 0} (stands : TablesContent → Bool)
    (change : TablesContent → TablesContent)
    (old new : State) (result : Result Bool E) : Type 0 where
  pub makes : Attempts (Makes (λ c. if stands c then change c else c)) old new result
  pub told : HasCleanDisk new
      → IfOk result (λ replaced. replaced ≡ stands (tables_content old.now.trees))

-- the change is committed
pub record Commits (change : TablesContent → TablesContent) (old new : State) : Type 0 where
  pub turns : Turns change old.now.trees new.now.trees
  pub idle : IsIdle new
