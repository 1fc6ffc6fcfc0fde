-- What is under a key after a statement.
use Rattle.std.proofs.Common.{◌≡◌, ◌∷◌, take, length, Bool, true, false, ◌&&◌, cond}
use Rattle.std.proofs.Common.{Some, None, Option, refl, ap, ◌∙◌}
use Rattle.std.specs.Prelude.{option_map, is_some, if◌then◌else◌}
use Rattle.std.specs.FinMap.{get, get-insert}
use Rattle.std.specs.Ordering.{eq_by_cmp}
use Rattle.sqlite_value.specs.declared.value.Value.TheVariants.{Null}
use Rattle.sqlite_value.specs.Order.{Row, row_cmp}
use Rattle.sqlite_value.proofs.OrderLemmas.{row_cmp_total}
use Rattle.sqlite_trees.specs.Tree.{Trees}
use Rattle.sqlite_schema.specs.declared.schema.Table.{Table}
use Rattle.sql_tables.specs.Keyed.{key_of, table_of, look}
use Rattle.sql_tables.specs.Statements.{Changes, Ends}

pub found : (table : Table) (values : Row) (old new : Trees)
    → Changes table values old new → (key : Row) → look table new key
    ≡ cond (eq_by_cmp row_cmp key (key_of table.primary (Null ∷ values))) (Some values)
    (look table old key)
found table values old new c key =
    c.rows key ∙ get-insert row_cmp_total (table_of table.primary (old table.tree))
    (key_of table.primary (Null ∷ values)) values key

module _ {X : Type 0} (of : Row → X) where
  mapped : (values : Row) (x : X) → of values ≡ x
      → (test same : Bool) (before : Option Row) → test ≡ same
      → option_map of (cond test (Some values) before)
      ≡ (if same then Some x else option_map of before)
  mapped values x told true true before e = ap Some told
  mapped values x told false false before e = refl
  mapped values x told true false before e = absurd (cc)
  mapped values x told false true before e = absurd (cc)

  dropped : (test same : Bool) (before : Option Row) → test ≡ same
      → option_map of (cond test None before) ≡ (if same then None else option_map of before)
  dropped true true before e = refl
  dropped false false before e = refl
  dropped true false before e = absurd (cc)
  dropped false true before e = absurd (cc)

  -- the row that was put is under its key, and the others are as they were
  pub put_tells : (table : Table) (values : Row) (old new : Trees) →
      Changes table values old new → (x : X) → of values ≡ x → (key : Row) (same : Bool)
      → eq_by_cmp row_cmp key (key_of table.primary (Null ∷ values)) ≡ same
      → option_map of (look table new key)
      ≡ (if same then Some x else option_map of (look table old key))
  put_tells table values old new c x told key same e =
      ap (option_map of) (found table values old new c key)
      ∙ mapped values x told _ same (look table old key) e

  -- none of the rows that were removed is there, and the others are as they were
  pub end_tells : (table : Table) (wanted : Row) (old new : Trees) →
      Ends table wanted old new → (key : Row) (same : Bool)
      → eq_by_cmp row_cmp (take (length wanted) key) wanted ≡ same
      → option_map of (look table new key)
      ≡ (if same then None else option_map of (look table old key))
  end_tells table wanted old new c key same e =
      ap (option_map of) (c.rows key) ∙ dropped _ same (look table old key) e

  -- a table that stays says what it said
  pub kept_tells : (table : Table) (old new : Trees) → new table.tree ≡ old table.tree → (key : Row)
      → option_map of (look table new key) ≡ option_map of (look table old key)
  kept_tells table old new e key =
      ap (λ rows. option_map of (get (table_of table.primary rows) key)) e

pub is_some_map : {A B : Type 0} (f : A → B) (o : Option A) → is_some (option_map f o) ≡ is_some o
is_some_map f None = refl
is_some_map f (Some x) = refl

pub apart_if : {A : Type 0} (p q : Bool) (x y : A) →
    (if p && q then x else y) ≡ (if p then (if q then x else y) else y)
apart_if true q x y = refl
apart_if false q x y = refl
