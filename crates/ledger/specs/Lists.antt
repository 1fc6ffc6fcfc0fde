-- What each of a list is.
-- Source: profile.
use Rattle.std.specs.Prelude.{List, [], ◌∷◌}

-- of each of a list
abbrev pub EachIn : {A : Type 0} → (A → Type 0) → List A → Type 0
EachIn P [] = Unit {0}
EachIn P (x ∷ xs) = P x × EachIn P xs
