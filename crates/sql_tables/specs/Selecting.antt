-- What a selection is, outside of a transaction and within one.
-- Source: profile.
use Rattle.std.specs.Prelude.{◌≡◌, List, ℕ, Result, Vec, false, IfErr, IfOk}
use Rattle.std.specs.Borrow.{MutBor}
use Rattle.std.specs.Global.{Global}
use Rattle.sqlite_value.specs.Order.{Row}
use Rattle.sqlite_trees.specs.declared.store.Store.{Ghosts}
use Rattle.sqlite.specs.Held.{Held, state}
use Rattle.sqlite.specs.State.{HasCleanDisk, IsUnchanged, Survives}
use Rattle.sqlite_schema.specs.Rules.{Keeps}
use Rattle.sqlite_schema.specs.declared.schema.Constraint.TheVariants.{ForeignKey}
use Rattle.sql_tables.specs.Schema.{our_schema}
use Rattle.sql_tables.specs.Statements.{Answers, Attempts, OnlyReads}
use Rattle.sql_tables.specs.declared.reading.ReadFault.{ReadFault}
use Rattle.sql_tables.specs.declared.reading.ReadFault.TheVariants.{Rules}

-- rows are answered, and nothing is changed
pub record SelectsRows {S : Type 0} (g : Ghosts S) (sql : List ℕ) (params : Row) (old new : Held S)
    (result : Result (Vec Row Global) ReadFault) : Type 0 where
  pub answers : HasCleanDisk (state g new) →
      IfOk result (λ rows. Answers sql params (state g old) (state g new) rows.items)
  pub reads : OnlyReads (state g old) (state g new)
  -- a stop leaves what it left before
  pub stops : Survives (state g old) (state g new) (λ _. (state g old).is_open ≡ false)
  pub fault : IfErr result (λ e. ¬ (e ≡ Rules))
  -- a row whose columns are a key of another table has a row there
  pub keys : HasCleanDisk (state g new) →
      IfOk result (λ _. Keeps ForeignKey our_schema (state g old).now.trees)

-- so they are within a transaction, over a connection that stays the same one
pub record SelectsRowsWithin {S : Type 0} (g : Ghosts S) (sql : List ℕ) (params : Row)
    (old new : MutBor (Held S)) (result : Result (Vec Row Global) ReadFault) : Type 0 where
  pub same_reference : new.ghost_name ≡ old.ghost_name
  pub answers : HasCleanDisk (state g new.now) →
      IfOk result (λ rows. Answers sql params (state g old.now) (state g new.now) rows.items)
  pub still : Attempts IsUnchanged (state g old.now) (state g new.now) result
  pub fault : IfErr result (λ e. ¬ (e ≡ Rules))
