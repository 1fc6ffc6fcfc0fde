-- What statements do to a connection.
use Rattle.std.specs.Prelude.{◌≡◌, ◌≢◌, ◌⊎◌, ◌≤◌, ℕ, true, List, ◌∷◌, None, cond, take}
use Rattle.std.specs.Prelude.{length, is_some, ◌+◌, if◌then◌else◌, IsTrue, false, Result, IfOk}
use Rattle.std.specs.Prelude.{OnOk, OnErr}
use Rattle.std.specs.Borrow.{MutBor}
use Rattle.std.specs.List.{AllByRecursion}
use Rattle.std.specs.FinMap.{get, insert}
use Rattle.std.specs.Ordering.{eq_by_cmp}
use Rattle.sqlite_value.specs.declared.value.Value.TheVariants.{Null}
use Rattle.sqlite_value.specs.Order.{Row, row_cmp}
use Rattle.sqlite_disk.specs.Disk.{MoreFaults}
use Rattle.sqlite_trees.specs.Objects.{catalog_tree}
use Rattle.sqlite_trees.specs.Tree.{Trees}
use Rattle.sqlite_schema.specs.declared.schema.Table.{Table}
use Rattle.sqlite_trees.specs.declared.store.Store.{Ghosts}
use Rattle.sqlite.specs.Held.{Held, state}
use Rattle.sqlite.specs.State.{State, HasCleanDisk, Shows, Shown, IsUnchanged, IsRolledBack}
use Rattle.sqlite.specs.State.{KeepsCommit, Survives}
use Rattle.sqlite_schema.specs.Rules.{Fits}
use Rattle.sql_tables.specs.Keyed.{key_of, table_of, Alike, IsStored, look}
use Rattle.sql_tables.specs.Schema.{our_schema}

abbrev pub AreStored : Trees → Type 0
AreStored trees = AllByRecursion (λ (t : Table). IsStored (trees t.tree)) our_schema.tables

-- the connection has the tables of the latest version
pub record IsTabled (s : State) : Type 0 where
  pub schema : s.now.schema ≡ our_schema
  pub stored : AreStored s.now.trees

-- unless its disk failed it, or an earlier failure shut it
abbrev pub HasTables : State → Type 0
HasTables s = HasCleanDisk s → IsTrue s.is_open → IsTabled s

-- the tables are there, and no transaction is open
pub record IsIdle (s : State) : Type 0 where
  pub book : IsTabled s
  pub settled : s.now ≡ s.committed

-- unless its disk failed it, or an earlier failure shut it
abbrev pub HasIdleTables : State → Type 0
HasIdleTables s = HasCleanDisk s → IsTrue s.is_open → IsIdle s

-- the rows of the tables obey their rules, unless the disk failed the connection, or an earlier
-- failure shut it
-- rule: statements-of-tables.reads-within
abbrev pub HasRules : State → Type 0
HasRules s = HasCleanDisk s → IsTrue s.is_open → Fits our_schema s.now.trees

-- a connection that is open is in a transaction
abbrev pub IsInside : State → Type 0
IsInside s = HasCleanDisk s → IsTrue s.is_open → IsTrue s.in_transaction

-- the row is in the place of any with its key, and the other tables stay
pub record Changes (table : Table) (values : Row) (old new : Trees) : Type 0 where
  pub rows : Alike (table_of table.primary (new table.tree))
      (insert (table_of table.primary (old table.tree))
      (key_of table.primary (Null ∷ values)) values)
  pub others : AllByRecursion (λ (t : Table). t.tree ≢ table.tree →
      new t.tree ≡ old t.tree) our_schema.tables
  pub catalog : new catalog_tree ≡ old catalog_tree

-- the rows whose key begins with these values are gone, and the other tables stay
pub record Ends (table : Table) (wanted : Row) (old new : Trees) : Type 0 where
  pub rows : (key : Row) → get (table_of table.primary (new table.tree)) key
      ≡ cond (eq_by_cmp row_cmp (take (length wanted) key) wanted) None
      (get (table_of table.primary (old table.tree)) key)
  pub others : AllByRecursion (λ (t : Table). t.tree ≢ table.tree →
      new t.tree ≡ old t.tree) our_schema.tables
  pub catalog : new catalog_tree ≡ old catalog_tree

-- inside a transaction
-- rule: statements-of-tables
pub record Puts (table : Table) (values : Row) (old new : State) : Type 0 where
  pub changes : Changes table values old.now.trees new.now.trees
  -- the table has a row more, unless there was one under the key
  pub counts : length (new.now.trees table.tree)
      ≡ (if is_some (look table old.now.trees (key_of table.primary (Null ∷ values)))
      then length (old.now.trees table.tree)
      else length (old.now.trees table.tree) + 1)
  pub book : IsTabled new
  pub shows : Shows old new new.now old.committed true

-- inside a transaction
-- rule: statements-of-tables
pub record Removes (table : Table) (wanted : Row) (old new : State) : Type 0 where
  pub changes : Ends table wanted old.now.trees new.now.trees
  pub book : IsTabled new
  pub shows : Shows old new new.now old.committed true

-- a refusal changes nothing, or it ends the transaction with what was last committed
abbrev pub Spares : State → State → Type 0
Spares old new = IsUnchanged old new ⊎ IsRolledBack old new

-- nothing is changed
pub record IsStill (old new : State) : Type 0 where
  pub was_open : IsTrue old.is_open
  pub now_is : new.now ≡ old.now
  pub committed_is : new.committed ≡ old.committed

-- within a transaction: the call does this, or it answers an error and keeps what was committed; a
-- stop in it leaves what was committed
pub record Attempts {A E : Type 0} (does : State → State → Type 0) (old new : State)
    (result : Result A E) : Type 0
  where
    pub done : HasCleanDisk new → OnOk result (does old new)
    pub kept : HasCleanDisk new → OnErr result (KeepsCommit old new)
    pub survives : Survives old new (λ _. ⊥)

-- outside a transaction: whether the call answers or not, it changes nothing
pub record OnlyReads (old new : State) : Type 0 where
  pub still : HasCleanDisk new → IsTrue new.is_open → IsStill old new
  pub idle : HasIdleTables new
  pub cleanness : HasCleanDisk new → HasCleanDisk old
  pub mode : old.in_transaction ≡ false → new.in_transaction ≡ false
  pub counts : old.faults ≤ new.faults
  -- only a fault of the disk shuts the connection
  pub closes : HasCleanDisk new → IsTrue old.is_open →
      IsTrue new.is_open ⊎ MoreFaults old.faults new.faults

-- outside a transaction: what the call answers is what the tables say, and it changes nothing
-- rule: statements-of-tables: what one statement reads, puts and removes
pub record Reads {A E : Type 0} (told : Trees → A → Type 0) (old new : State)
    (result : Result A E) : Type 0 where
  pub found : HasCleanDisk new → IfOk result (told old.now.trees)
  pub only : OnlyReads old new
  -- after an answer the connection is open
  pub stays : HasCleanDisk new → OnOk result (IsTrue new.is_open)
  -- a stop leaves what it left before
  pub survives : Survives old new (λ _. old.is_open ≡ false)

-- within a transaction: what the call answers is what the tables say, and it changes nothing; or it
-- answers an error and keeps what was committed
-- rule: statements-of-tables.reads-within: what of an account may still change, read within a
--   transaction, and the rules that the tables obey once an account or the moment is put there
pub record ReadsWithin {A E : Type 0} (told : Trees → A → Type 0) (old new : State)
    (result : Result A E) : Type 0 where
  pub found : HasCleanDisk new → IfOk result (told old.now.trees)
  pub still : Attempts IsUnchanged old new result

-- a selection answers these rows, and the tables obey their rules
pub record Answers (sql : List ℕ) (params : Row) (old new : State) (rows : List Row) : Type 0 where
  pub was_open : IsTrue old.is_open
  pub is_open : IsTrue new.is_open
  pub book : IsTabled old
  pub fits : Fits our_schema old.now.trees
  pub shown : Shown sql params old new rows

-- within a transaction, over a connection that stays the same one
pub record AttemptsOver {A E S : Type 0} (g : Ghosts S) (does : State → State → Type 0)
    (old new : MutBor (Held S)) (result : Result A E) : Type 0 where
  pub same_reference : new.ghost_name ≡ old.ghost_name
  pub makes : Attempts does (state g old.now) (state g new.now) result
