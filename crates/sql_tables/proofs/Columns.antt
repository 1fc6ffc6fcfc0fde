-- A row is the list of its columns, and texts and numbers in SQL's tests.
use Rattle.std.proofs.Common.{◌≡◌, ℕ, suc, [], ◌∷◌, false, length}
use Rattle.std.proofs.Common.{is_eq, refl, ap, ap₂, ◌∙◌, arith}
use Rattle.std.proofs.lemmas.Cmp.{tied_back}
use Rattle.sqlite_value.specs.declared.value.Value.{Value}
use Rattle.sqlite_value.specs.declared.keys.Collation.TheVariants.{Binary}
use Rattle.sqlite_value.specs.Order.{Row, column, value_cmp}
use Rattle.sqlite_value.proofs.OrderLemmas.{value_cmp_total}
use Rattle.sqlite_sql.specs.Ops.{is_null}
use Rattle.sqlite_schema.specs.Rules.{equal}
use Rattle.sql_tables.proofs.Steps.{same_test}
use Rattle.sql_tables.proofs.Ties.{equal_is, equal_present}

-- the values are in the row from this place on
abbrev pub AreFrom : ℕ → Row → Row → Type 0
AreFrom p w [] = Unit {0}
AreFrom p w (v ∷ vs) = (column w p ≡ v) × AreFrom (suc p) w vs

are_later : (p : ℕ) (x : Value) (w vs : Row) → AreFrom (suc p) (x ∷ w) vs → AreFrom p w vs
are_later p x w [] h = tt
are_later p x w (v ∷ vs) h = (h.0, are_later (suc p) x w vs h.1)

pub row_is : (w vs : Row) → length w ≡ length vs → AreFrom 0 w vs → w ≡ vs
row_is [] [] long h = refl
row_is [] (v ∷ vs) long h = absurd (omega (arith, long))
row_is (x ∷ w) [] long h = absurd (omega (arith, long))
row_is (x ∷ w) (v ∷ vs) long h =
    ap₂ ◌∷◌ h.0 (row_is w vs (omega (arith, long)) (are_later 0 x w vs h.1))

pub tie_turned : (v w : Value) → is_eq (value_cmp v w) ≡ is_eq (value_cmp w v)
tie_turned v w = same_test _ _
    (λ e. ap is_eq (tied_back value_cmp_total v w (equal_is _ e)))
    (λ e. ap is_eq (tied_back value_cmp_total w v (equal_is _ e)))

-- SQL's equality with a value that isn't NULL
pub equal_turned : (v w : Value) → is_null w ≡ false → equal Binary v w ≡ is_eq (value_cmp w v)
equal_turned v w full = equal_present v w full ∙ tie_turned v w
