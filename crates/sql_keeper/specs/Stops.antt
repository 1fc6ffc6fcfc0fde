-- What a stop may leave of the database of a keeper.
-- Source: profile.
use Rattle.std.specs.Prelude.{◌≡◌, ◌⊎◌}
use Rattle.sqlite_trees.specs.declared.store.Store.{Ghosts}
use Rattle.sqlite_trees.specs.Tree.{Trees}
use Rattle.sqlite.specs.Held.{state}
use Rattle.sqlite.specs.State.{HasCleanDisk}
use Rattle.keepers.specs.Seen.{Seen}
use Rattle.keepers.specs.Tables.{Tables}
use Rattle.sql_rows.specs.Content.{tables_content}
use Rattle.sql_keeper.specs.Content.{tables_of}
use Rattle.sql_keeper.specs.Inside.{KeeperState, IsClean, IsKeeper, names_in}
use Rattle.sql_keeper.specs.Inside.{clean_in, failed_in, tables_in}

-- the rows of the database as they are
abbrev pub trees_in : {S : Type 0} → Ghosts S → KeeperState S → Trees
trees_in g k = (state g k.connection).now.trees

-- what an open after a stop may find
abbrev pub MayLeave : {S : Type 0} → Ghosts S → KeeperState S → Trees → Type 0
MayLeave g k = (state g k.connection).may_leave

-- the disk has returned what was written
abbrev pub honest_in : {S : Type 0} → Ghosts S → KeeperState S → Type 0
honest_in g k = HasCleanDisk (state g k.connection)

-- a stop of the keeper may leave a database whose rows are these, by the names of its periods
pub record LeavesIn {S : Type 0} (g : Ghosts S) (k : KeeperState S) (t : Tables) : Type 0 where
  pub keeper : IsKeeper g k
  pub db : Trees
  pub may : MayLeave g k db
  pub is : t ≡ tables_of (names_in k) (tables_content db)

-- a keeper over a database as a contract sees a keeper
abbrev pub as_seen : {S : Type 0} → Ghosts S → KeeperState S → Seen
as_seen g k = record {
  tables = tables_in g k;
  failed = failed_in k;
  honest = honest_in g k;
  clean = clean_in g k;
  left = LeavesIn g k;
}

-- a stop at the exit of a call leaves what it left before the call, or all that the call writes,
-- also where the connection is shut
-- rule: stop-commit: a stop at the exit of a commit leaves the rows before it or with it, also of
--   a connection that the disk shut
pub record IsCommitWhole {S : Type 0} (g : Ghosts S) (old new : KeeperState S)
    (Written : Trees → Type 0) : Type 0
  where
    pub left : HasCleanDisk (state g new.connection) → (db : Trees) → MayLeave g new db
        → MayLeave g old db ⊎ Written db

-- between two calls a stop leaves the rows as they are
-- rule: stop-between: a stop between two calls leaves what was committed last
abbrev pub IsAtRest : {S : Type 0} → Ghosts S → KeeperState S → Type 0
IsAtRest g k =
    IsKeeper g k → IsClean (state g k.connection) → (db : Trees) → MayLeave g k db
    → db ≡ trees_in g k
