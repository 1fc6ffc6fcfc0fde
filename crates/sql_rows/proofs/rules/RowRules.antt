-- Rows that are read as values of their columns, and one that is refused.
use Rattle.std.proofs.Common.{◌≡◌, inl, inr, ℕ, zero, suc, ◌<◌, List, [], ◌∷◌, map, ap₂, ◌∙◌}
use Rattle.std.proofs.Common.{refl, length, get_or, arith}
use Rattle.std.specs.List.{AllByRecursion}
use Rattle.sqlite_value.specs.Order.{Row}
use Rattle.sqlite_rules.specs.Lists.{Has}

module _ {X : Type 0} (cells : X → Row) where
  -- the row of a selection is that of a value which is in the tables
  pub record IsRowOf (Stands : X → Type 0) (w : Row) : Type 0 where
    pub at : X
    pub is : w ≡ cells at
    pub stands : Stands at

  pub record AreRowsOf (Stands : X → Type 0) (rows : List Row) : Type 0 where
    pub xs : List X
    pub are : rows ≡ map cells xs
    pub stand : AllByRecursion Stands xs

  pub listed : (Stands : X → Type 0) (rows : List Row)
      → ((w : Row) → Has rows w → IsRowOf Stands w) → AreRowsOf Stands rows
  listed Stands [] each = record { xs = []; are = refl; stand = tt }
  listed Stands (w ∷ rows) each =
      let one = each w (inl refl) in
      let rest = listed Stands rows (λ v h. each v (inr h)) in
      record {
        xs = one.at ∷ rest.xs;
        are = ap₂ ◌∷◌ one.is rest.are;
        stand = (one.stands, rest.stand);
      }

  -- a row that is refused refuses all
  pub row_refused : (IsRuled : X → Type 0) (rows : List Row) (i : ℕ) (row : Row) → i < length rows
      → row ≡ get_or rows i row → ((x : X) → row ≡ cells x → ¬ IsRuled x)
      → (xs : List X) → rows ≡ map cells xs → ¬ AllByRecursion IsRuled xs
  row_refused IsRuled [] i row low is no' xs same all = absurd (omega (arith, low))
  row_refused IsRuled (r ∷ rs) i row low is no' [] same all =
      absurd (let e : r ∷ rs ≡ [] = same in cc)
  row_refused IsRuled (r ∷ rs) zero row low is no' (x ∷ xs) same all =
      let first : r ≡ cells x = cc same in no' x (is ∙ first) all.0
  row_refused IsRuled (r ∷ rs) (suc i) row low is no' (x ∷ xs) same all =
      let rest : rs ≡ map cells xs = cc same in
      row_refused IsRuled rs i row (omega (arith, low)) is no' xs rest all.1
