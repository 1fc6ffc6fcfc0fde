-- What is left of a list whose rows ascend, or whose numbers rise, after the one before it.
use Rattle.std.proofs.Common.{◌≡◌, ◌<◌, ℕ, zero, suc, List, [], ◌∷◌, map, drop, length, get_or, Bool}
use Rattle.std.proofs.Common.{false, true≢false, Option, Some, None, sym, ap, subst, ◌∙◌, arith}
use Rattle.std.proofs.lemmas.Option.{same_Some}
use Rattle.sql_rows.specs.Lists.{Ascends, Rises}

module _ {X : Type 0} (number : X → ℕ) where
  abbrev pub RiseAfter : Option X → List X → Type 0
  RiseAfter None xs = Rises number xs
  RiseAfter (Some x) xs = Rises number (x ∷ xs)

  pub nothing_after : (o : Option X) → RiseAfter o []
  nothing_after None = tt
  nothing_after (Some x) = tt

  pub rises_map : {Y : Type 0} (f : Y → X) (ys : List Y) → Rises (λ y. number (f y)) ys →
      Rises number (map f ys)
  rises_map f [] rise = tt
  rises_map f (x ∷ []) rise = tt
  rises_map f (x ∷ y ∷ zs) rise = (rise.0, rises_map f (y ∷ zs) rise.1)

module _ {X : Type 0} (before : X → X → Bool) where
  abbrev pub AscendAfter : Option X → List X → Type 0
  AscendAfter None xs = Ascends before xs
  AscendAfter (Some x) xs = Ascends before (x ∷ xs)

  pub none_after : (o : Option X) → AscendAfter o []
  none_after None = tt
  none_after (Some x) = tt

  pub ascends_map : {Y : Type 0} (f : Y → X) (ys : List Y)
      → Ascends (λ x y. before (f x) (f y)) ys → Ascends before (map f ys)
  ascends_map f [] all = tt
  ascends_map f (x ∷ []) all = tt
  ascends_map f (x ∷ y ∷ zs) all = (all.0, ascends_map f (y ∷ zs) all.1)

  -- a row that isn't after the one before it
  not_next : (o : Option X) (x row : X) (xs : List X) → o ≡ Some x → before x row ≡ false
      → ¬ AscendAfter o (row ∷ xs)
  not_next None x row xs is falls up = absurd (cc is)
  not_next (Some y) x row xs is falls up =
      true≢false (sym up.0 ∙ ap (λ z. before z row) (same_Some y x is) ∙ falls)

  drop_here : (rows : List X) (i : ℕ) (row : X) → i < length rows → row ≡ get_or rows i row
      → drop i rows ≡ row ∷ drop (suc i) rows
  drop_here [] i row low is = absurd (omega (arith, low))
  drop_here (r ∷ rs) zero row low is = ap (λ x. x ∷ rs) (sym is)
  drop_here (r ∷ rs) (suc i) row low is = drop_here rs i row (omega (arith, low)) is

  pub falls_at : (o : Option X) (x row : X) (rows : List X) (i : ℕ) → o ≡ Some x
      → i < length rows → row ≡ get_or rows i row → before x row ≡ false
      → ¬ AscendAfter o (drop i rows)
  falls_at o x row rows i is low at falls up =
      not_next o x row (drop (suc i) rows) is falls
      (subst (AscendAfter o) (drop_here rows i row low at) up)
