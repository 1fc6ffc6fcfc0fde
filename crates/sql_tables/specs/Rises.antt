-- Rows whose first value is an integer that rises.
use Rattle.std.specs.Prelude.{◌≡◌, ◌⊎◌, ◌<ℤ◌, ℤ, Bool, true, false, List, [], ◌∷◌, ◌++◌, Option}
use Rattle.std.specs.Prelude.{Some, None, IsTrue}
use Rattle.std.specs.declared.cmp.Ordering.TheVariants.{Less}
use Rattle.std.specs.List.{AllByRecursion}
use Rattle.sqlite_value.specs.declared.value.Value.TheVariants.{Int}
use Rattle.sqlite_value.specs.Order.{Row, column, value_cmp}
use Rattle.sqlite_trees.specs.Tree.{rowid, IsAscending}
use Rattle.sqlite_trees.specs.View.{is_int}

-- the first value of each row is an integer above that of each row before
abbrev pub AreRising : List Row → Type 0
AreRising rows = IsAscending (λ a b. value_cmp (rowid a) (rowid b) ≡ Less) rows × AllByRecursion
    (λ r. IsTrue (is_int (rowid r))) rows

-- the row's first value is an integer, above the last if there is one
pub record IsAbove (last : Option ℤ) (row : Row) (id : ℤ) : Type 0 where
  pub is : column row 0 ≡ Int id
  pub above : (before : ℤ) → last ≡ Some before → before <ℤ id

abbrev pub IsAtMost : ℤ → Row → Type 0
IsAtMost last row = (column row 0 ≡ Int last) ⊎ (value_cmp (column row 0) (Int last) ≡ Less)

-- no row is above the last, which is last
pub record IsLast (last : ℤ) (rows : List Row) : Type 0 where
  pub most : AllByRecursion (IsAtMost last) rows
  pub front : List Row
  pub top : Row
  pub split : rows ≡ front ++ top ∷ []
  pub is : column top 0 ≡ Int last

-- the rows so far: they rise up to the last, or they don't
abbrev pub Climbs : Bool → Option ℤ → List Row → Type 0
Climbs false last rows = ¬ AreRising rows
Climbs true None rows = rows ≡ []
Climbs true (Some last) rows = AreRising rows × IsLast last rows
