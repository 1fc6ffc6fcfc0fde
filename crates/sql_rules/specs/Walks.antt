-- A walk over the rows of a selection.
use Rattle.std.specs.Prelude.{◌≡◌, ℕ, ℤ, Bool, true, false, List, [], Option, IsTrue, Result, IfOk}
use Rattle.std.specs.List.{AllByRecursion}
use Rattle.sqlite_value.specs.Order.{Row}
use Rattle.sqlite.specs.State.{State, HasCleanDisk, IsUnchanged, Shown, Survives}
use Rattle.sql_tables.specs.Rises.{AreRising, Climbs}
use Rattle.sql_tables.specs.Statements.{Spares}

-- the first value of each row is an integer above that of the row before, and each row passes the
-- test
abbrev pub Pass : (Row → Bool) → List Row → Type 0
Pass rule rows = AreRising rows × AllByRecursion (λ row. IsTrue (rule row)) rows

-- the rows so far: they rise up to the last and pass, or they don't
abbrev pub Walks : (Row → Bool) → Bool → Option ℤ → List Row → Type 0
Walks rule false last rows = ¬ Pass rule rows
Walks rule true last rows =
    Climbs true last rows × AllByRecursion (λ row. IsTrue (rule row)) rows

-- whether a selection answers no row; nothing is changed
pub record FindsNoRow {E : Type 0} (sql : List ℕ) (old new : State) (result : Result Bool E) : Type 0
  where
    pub found : HasCleanDisk new → IfOk result (λ none. IsUnchanged old new × (rows : List Row)
        × Shown sql [] old new rows × (none ≡ true → rows ≡ []) × (rows ≡ [] → none ≡ true))
    pub spares : HasCleanDisk new → Spares old new
    pub survives : Survives old new (λ _. ⊥)
