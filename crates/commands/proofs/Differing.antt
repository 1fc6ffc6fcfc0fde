-- Lists in which no two elements are alike, made longer at the end.
use Rattle.std.proofs.Common.{◌≡◌, List, [], ◌∷◌, ◌++◌, Bool, true, false, ◌||◌, refl}
use Rattle.std.specs.Prelude.{not}
use Rattle.std.specs.List.{list_all, list_any}
use Rattle.std.proofs.lemmas.Bool.{and_parts, and_from}
use Rattle.commands.specs.Differ.{all_differ}

neither : (a b : Bool) → (a || b) ≡ false → (not a ≡ true) × (b ≡ false)
neither true b h = absurd (cc)
neither false b h = (refl, h)

pub all-append : {A : Type 0} (p : A → Bool) (xs : List A) (y : A) → list_all p xs ≡ true →
    p y ≡ true → list_all p (xs ++ y ∷ []) ≡ true
all-append p [] y h k = and_from _ _ k refl
all-append p (x ∷ xs) y h k =
    let parts = and_parts (p x) (list_all p xs) h in
    and_from _ _ parts.0 (all-append p xs y parts.1 k)

-- an element that no other is like goes to the end
pub differ-append : {A : Type 0} (alike : A → A → Bool) (xs : List A) (y : A) → all_differ alike xs
    ≡ true → list_any (λ x. alike x y) xs ≡ false → all_differ alike (xs ++ y ∷ []) ≡ true
differ-append alike [] y h k = refl
differ-append alike (x ∷ xs) y h k =
    let parts = and_parts (list_all (λ z. not (alike x z)) xs) (all_differ alike xs) h in
    let apart = neither (alike x y) (list_any (λ z. alike z y) xs) k in
    and_from _ _ (all-append (λ z. not (alike x z)) xs y parts.0 apart.0)
    (differ-append alike xs y parts.1 apart.1)
