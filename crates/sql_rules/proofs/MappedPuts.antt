-- What is put in its rules leaves each table in its rules, and so does what is removed.
use Rattle.std.proofs.Common.{◌≡◌, List, ◌∷◌, Bool, true, false, cond, Some, None, Option}
use Rattle.std.proofs.Common.{sym, subst, ◌∙◌, take, length}
use Rattle.std.specs.Ordering.{eq_by_cmp}
use Rattle.std.specs.FinMap.{get}
use Rattle.sqlite_value.specs.declared.value.Value.TheVariants.{Null}
use Rattle.sqlite_value.specs.Order.{Row, row_cmp}
use Rattle.sqlite_trees.specs.Tree.{Trees}
use Rattle.sqlite_schema.specs.declared.schema.Table.{Table}
use Rattle.sql_tables.specs.Keyed.{key_of, look, table_of}
use Rattle.sql_tables.specs.Statements.{Changes, Ends}
use Rattle.sql_tables.proofs.Found.{found}
use Rattle.sql_rules.specs.Mapped.{IsMapped}

module _ (rule : Row → Bool) where
  either : (values : Row) → rule (Null ∷ values) ≡ true → (before : Option Row)
      → ((cells : Row) → before ≡ Some cells → rule (Null ∷ cells) ≡ true) → (same : Bool)
      → (cells : Row) → cond same (Some values) before ≡ Some cells → rule (Null ∷ cells) ≡ true
  either values in' before old true cells e =
      let is : values ≡ cells = cc e in subst (λ v. rule (Null ∷ v) ≡ true) is in'
  either values in' before old false cells e = old cells e

  kept : (before : Option Row)
      → ((cells : Row) → before ≡ Some cells → rule (Null ∷ cells) ≡ true) → (gone : Bool)
      → (cells : Row) → cond gone None before ≡ Some cells → rule (Null ∷ cells) ≡ true
  kept before old true cells e = absurd (cc e)
  kept before old false cells e = old cells e

  -- the table of the row that was put
  -- rule: rows-ruled.mapped
  pub put_keeps : (table : Table) (values : Row) (old new : Trees) → Changes table values old new
      → rule (Null ∷ values) ≡ true → IsMapped rule table old → IsMapped rule table new
  put_keeps table values old new c in' so key cells e =
      either values in' (look table old key) (so key)
      (eq_by_cmp row_cmp key (key_of table.primary (Null ∷ values))) cells
      (sym (found table values old new c key) ∙ e)

  -- the table of the rows that were removed
  -- rule: rows-ruled.mapped
  pub end_keeps : (table : Table) (wanted : Row) (old new : Trees) → Ends table wanted old new
      → IsMapped rule table old → IsMapped rule table new
  end_keeps table wanted old new c so key cells e =
      kept (look table old key) (so key)
      (eq_by_cmp row_cmp (take (length wanted) key) wanted) cells (sym (c.rows key) ∙ e)

  -- a table that stays
  pub still_keeps : (table : Table) (old new : Trees) → new table.tree ≡ old table.tree
      → IsMapped rule table old → IsMapped rule table new
  still_keeps table old new same so key cells e =
      so key cells
      (subst (λ (rows : List Row). get (table_of table.primary rows) key ≡ Some cells) same e)
