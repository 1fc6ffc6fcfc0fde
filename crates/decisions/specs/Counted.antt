-- The uses that the services of a request report, counted before any of them is settled.
-- Source: profile.
use Rattle.std.specs.Prelude.{◌≡◌, ◌+◌, ℕ, true, false, List, [], ◌∷◌, Option, None}
use Rattle.units.specs.Words.{Moment}
use Rattle.identifiers.specs.Words.{SessionName}
use Rattle.commands.specs.declared.service.Service.{Service}
use Rattle.shelves.specs.Shelves.{book_at}
use Rattle.reserving.specs.declared.settle.CountedUse.{CountedUse}
use Rattle.reserving.specs.Rows.{AccountRows}
use Rattle.reserving.specs.Uses.{IsUseOf}
use Rattle.decisions.specs.Services.{is_known, parts_of}
use Rattle.decisions.specs.Parts.{service_charges}

-- the use of a service of a known group; another has none
-- rule: stored-limits
pub record IsServiceUse (s : SessionName) (charges : ℕ) (t : Moment) (a : AccountRows)
    (x : Service) (u : Option CountedUse) : Type 0 where
  pub known : is_known (book_at a.shelf t) x.group ≡ true →
      IsUseOf s x.group (parts_of x.used) charges t a u
  pub other : is_known (book_at a.shelf t) x.group ≡ false → u ≡ None

-- each service's, behind the charges of those before it
-- rule: stored-limits
abbrev pub AreCounted : SessionName → ℕ → Moment → AccountRows → List Service →
    List (Option CountedUse) → Type 0
AreCounted s charges t a [] [] = Unit {0}
AreCounted s charges t a [] (u ∷ us) = ⊥
AreCounted s charges t a (x ∷ xs) [] = ⊥
AreCounted s charges t a (x ∷ xs) (u ∷ us) = IsServiceUse s charges t a x u
    × AreCounted s (charges + service_charges (book_at a.shelf t) x) t a xs us
