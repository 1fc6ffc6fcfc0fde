-- All readers of open grants give one grant.
use Rattle.std.proofs.Common.{◌≡◌, ℕ, Bool, true, false, List, [], ◌∷◌, refl, Option, Some, None}
use Rattle.std.specs.Prelude.{◌==◌, ◌&&◌, if◌then◌else◌, option_map}
use Rattle.ledger.specs.Ledger.{Ledger, GrantOf, Telling, counts, is_same, or_else, newest, inner}
use Rattle.ledger.specs.Ledger.{telling, tells}
use Rattle.ledger.specs.Parts.{told_of}
use Rattle.charging.specs.Paid.{OpenGrant}
use Rattle.charging.specs.OpenGrants.{PlacedGrant, granted_by, GrantsAreOne}

-- what a reader makes of a grant, another makes of what a third one gives of it
read_alike : {A B : Type 0} (read : GrantOf → A) (more : A → B) (s : List ℕ) (g : ℕ)
    (ledger : Ledger) →
    inner (newest (tells (λ x. more (read x)) s g) ledger)
    ≡ option_map more (inner (newest (tells read s g) ledger))
read_alike read more s g [] = refl
read_alike read more s g (d ∷ older) =
    at (telling (counts d.fact).grant (counts d.fact).end) (read_alike read more s g older)
  where
    by_test : (b : Bool) (o : Option GrantOf) →
        inner (newest (tells (λ x. more (read x)) s g) older)
        ≡ option_map more (inner (newest (tells read s g) older)) →
        inner (or_else (if b then Some (option_map (λ x. more (read x)) o) else None)
        (newest (tells (λ x. more (read x)) s g) older))
        ≡ option_map more (inner (or_else (if b then Some (option_map read o) else None)
        (newest (tells read s g) older)))
    by_test true None rest = refl
    by_test true (Some x) rest = refl
    by_test false o rest = rest

    at : (o : Option Telling) →
        inner (newest (tells (λ x. more (read x)) s g) older)
        ≡ option_map more (inner (newest (tells read s g) older)) →
        inner (or_else (told_of (λ x. more (read x)) s g o)
        (newest (tells (λ x. more (read x)) s g) older))
        ≡ option_map more (inner (or_else (told_of read s g o) (newest (tells read s g) older)))
    at None rest = rest
    at (Some x) rest = by_test (is_same x.session s && x.group == g) x.grant rest

abbrev quota_of : PlacedGrant → OpenGrant
quota_of x = record { units = x.units; counter = x.counter }

-- rule: grant-terms.granted
pub grants_are_one : GrantsAreOne
grants_are_one s g ledger = record {
  priced = read_alike granted_by (λ (x : PlacedGrant). x.terms) s g ledger;
  paid = read_alike granted_by quota_of s g ledger;
}
