-- What the calls of a keeper over a database leave of it: of its tables, and of its rows after a
-- stop.
-- Source: profile.
use Rattle.std.specs.Prelude.{◌≡◌, ℕ, IfOk, OnOk, Result}
use Rattle.units.specs.Words.{Moment}
use Rattle.shelves.specs.Shelves.{Shelf}
use Rattle.sqlite_trees.specs.declared.store.Store.{Ghosts}
use Rattle.sqlite_trees.specs.Tree.{Trees}
use Rattle.keepers.specs.Change.{IsSwept, changed}
use Rattle.keepers.specs.Keeping.{Keeps, KeeperReads}
use Rattle.keepers.specs.Tables.{Tables}
use Rattle.keepers.specs.declared.fault.StoreFault.{StoreFault}
use Rattle.keepers.specs.declared.loaded.Change.{Change}
use Rattle.sql_rows.specs.Content.{rows_in}
use Rattle.sql_keeper.specs.Inside.{KeeperState, clean_in, names_in, tables_in}
use Rattle.sql_keeper.specs.Numbers.{AreNumbersFree}
use Rattle.sql_keeper.specs.Stops.{as_seen, IsCommitWhole, trees_in}
use Rattle.sql_keeper.specs.Sweeps.{BecomesSwept}

-- a call that reads: what it finds is in the tables, and a stop leaves the rows that there were
pub record AsksTables {S T : Type 0} (g : Ghosts S) (Found : Tables → T → Type 0)
    (old new : KeeperState S) (result : Result T StoreFault) : Type 0 where
  pub reads : KeeperReads (as_seen g old) (as_seen g new) (Found (tables_in g old)) result
  pub whole : IsCommitWhole g old new (λ _. ⊥)

-- a call that writes: the tables are changed so, and a stop leaves the rows that there were or
-- those that they become
pub record StoresChange {S T : Type 0} (g : Ghosts S) (change : Tables → Tables)
    (becomes : Trees → Type 0) (old new : KeeperState S) (result : Result T StoreFault)
    : Type 0 where
  pub done : clean_in g new → OnOk result (tables_in g new ≡ change (tables_in g old))
  pub kept : Keeps (as_seen g old) (as_seen g new) (λ t. t ≡ change (tables_in g old)) result
  pub whole : IsCommitWhole g old new becomes

-- a change is committed so, and no number that it takes was taken
-- rule: database-writes.numbers-free
pub record StoresCommit {S T : Type 0} (g : Ghosts S) (change : Change)
    (becomes : Trees → Type 0) (old new : KeeperState S) (result : Result T StoreFault)
    : Type 0 where
  pub done : clean_in g new → OnOk result (tables_in g new ≡ changed change (tables_in g old))
  pub kept : Keeps (as_seen g old) (as_seen g new) (λ t. t ≡ changed change (tables_in g old)) result
  pub whole : IsCommitWhole g old new becomes
  pub free : clean_in g new
      → OnOk result (AreNumbersFree change (rows_in (trees_in g old) change.number))

-- a sweep of all accounts, which are counted
pub record SweepsAll {S : Type 0} (g : Ghosts S) (b : Shelf) (moment : Moment)
    (old new : KeeperState S) (result : Result ℕ StoreFault) : Type 0 where
  pub count : clean_in g new → IfOk result (λ n. n ≡ (tables_in g old).count)
  pub done : clean_in g new → OnOk result (IsSwept b moment (tables_in g old) (tables_in g new))
  pub kept : Keeps (as_seen g old) (as_seen g new) (IsSwept b moment (tables_in g old)) result
  pub whole : IsCommitWhole g old new (BecomesSwept (names_in old) old.text b moment
      (trees_in g old))
