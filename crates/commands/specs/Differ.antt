-- Lists in which no two elements are alike.
use Rattle.std.specs.Prelude.{◌&&◌, List, [], ◌∷◌, Bool, true, not}
use Rattle.std.specs.List.{list_all}

-- no element is like a later one
abbrev pub all_differ : {A : Type 0} → (A → A → Bool) → List A → Bool
all_differ alike [] = true
all_differ alike (x ∷ xs) = list_all (λ y. not (alike x y)) xs && all_differ alike xs
