-- What the values of a row are to a table that finds its rows by a key.
use Rattle.std.proofs.Common.{◌≡◌, ℤ, ◌∷◌, Some, false}
use Rattle.std.specs.List.{AllByRecursion}
use Rattle.std.specs.Ordering.{eq_by_cmp}
use Rattle.sqlite_value.specs.declared.value.Value.{Value}
use Rattle.sqlite_value.specs.declared.value.Value.TheVariants.{Null, Int}
use Rattle.sqlite_value.specs.Order.{Row, column, row_cmp}
use Rattle.sqlite_sql.specs.Ops.{is_null}
use Rattle.sqlite_schema.specs.declared.schema.Table.{Table}
use Rattle.sqlite_rules.specs.Cast.{cast_row}
use Rattle.sqlite_rules.specs.Keys.{conflicts}
use Rattle.sql_tables.specs.Keyed.{key_of}
use Rattle.sql_tables.specs.Schema.{our_schema}

pub record IsKeyed (table : Table) (values : Row) : Type 0 where
  -- they are stored as they are, with a number before them or none yet
  pub again : (id : ℤ) → cast_row table (Int id ∷ values) ≡ Int id ∷ values
  pub unset : cast_row table (Null ∷ values) ≡ Null ∷ values
  -- the key doesn't ask for the number, and is full
  pub keys : (v : Value) → key_of table.primary (v ∷ values) ≡ key_of table.primary (Null ∷ values)
  pub full : (id : ℤ)
      → AllByRecursion (λ p. is_null (column (Int id ∷ values) p) ≡ false) table.primary
  -- those rows meet it that have its key
  pub ties : (id : ℤ) (other : Row)
      → conflicts (Some table.primary) our_schema.indexes table (Int id ∷ values) other
      ≡ eq_by_cmp row_cmp (key_of table.primary other) (key_of table.primary (Int id ∷ values))
