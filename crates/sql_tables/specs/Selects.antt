-- What a selection answers.
use Rattle.std.specs.Prelude.{Bool, List, [], ◌∷◌, map, filter, Option, Some, None, if◌then◌else◌}
use Rattle.std.specs.List.Sorted.{IsPermutation}
use Rattle.sqlite_value.specs.Order.{Row}

-- the columns of the stored rows that pass the test, each as often as it is there, in some order
-- rule: statements-of-tables
pub record Selects (test : Row → Bool) (columns : Row → Row) (stored out : List Row) : Type 0 where
  pub same : IsPermutation (map columns (filter test stored)) out

abbrev pub passing : {A : Type 0} → (A → Bool) → Option A → Option A
passing p None = None
passing p (Some x) = if p x then Some x else None

abbrev pub one_or_none : {A : Type 0} → Option A → List A
one_or_none None = []
one_or_none (Some x) = x ∷ []
