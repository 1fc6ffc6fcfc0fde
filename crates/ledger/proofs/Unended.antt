-- What is held of a bucket is the sum of its holds that no later fact ended.
use Rattle.std.proofs.Common.{◌≡◌, ℕ, ◌+◌, Bool, true, false, List, [], ◌∷◌, refl, ap, ◌∙◌}
use Rattle.std.proofs.Common.{Option, Some, None}
use Rattle.std.specs.Prelude.{◌&&◌, ◌||◌, not}
use Rattle.ledger.specs.Ledger.{Ledger, Dated, EndOf, counts as counts_of, test_of}
use Rattle.ledger.specs.Parts.{ends_of}
use Rattle.ledger.specs.Ledger.{is_live, held}
use Rattle.ledger.specs.Parts.{any, counts_before, but_ended, hold_of}
use Rattle.ledger.specs.Laws.{is_end_of, held_unended, IsHeldUnended, IsReservedUnended}
use Rattle.ledger.proofs.Holds.{held_same}

-- those that count and that no newer fact ended
abbrev counted : (List ℕ → ℕ → Bool) → Ledger → List ℕ → ℕ → Bool
counted counts newer = λ s g. counts s g && not (any (is_end_of s g) newer)

-- a test more: none of the newer facts, and not this one
one_more : (c x y : Bool) → ((c && not x) && not y) ≡ (c && not (y || x))
one_more true true true = refl
one_more true true false = refl
one_more true false true = refl
one_more true false false = refl
one_more false x y = refl

with_none : (c : Bool) → c ≡ (c && true)
with_none true = refl
with_none false = refl

-- seen from before a fact: none that it ends, nor a newer one
before_more : (counts : List ℕ → ℕ → Bool) (d : Dated) (newer : Ledger) (s : List ℕ) (g : ℕ) →
    counts_before d.fact (counted counts newer) s g ≡ counted counts (d ∷ newer) s g
before_more counts d newer s g = at (counts_of d.fact).end
  where
    at : (o : Option EndOf) → but_ended o (counted counts newer) s g
        ≡ (counts s g && not (test_of (ends_of s g) o || any (is_end_of s g) newer))
    at None = refl
    at (Some e) = one_more (counts s g) (any (is_end_of s g) newer) (ends_of s g e)

held_from : (counts : List ℕ → ℕ → Bool) (n : ℕ) (newer ledger : Ledger) →
    held (counted counts newer) n ledger ≡ held_unended counts n newer ledger
held_from counts n newer [] = refl
held_from counts n newer (d ∷ older) =
    ap (λ rest. hold_of (counted counts newer) n d.fact + rest)
    (held_same (counts_before d.fact (counted counts newer)) (counted counts (d ∷ newer)) n older
    (before_more counts d newer)
    ∙ held_from counts n (d ∷ newer) older)

-- rule: holds.held-unended
pub held_is_unended : IsHeldUnended
held_is_unended counts n ledger =
    held_same counts (counted counts []) n ledger (λ s g. with_none (counts s g))
    ∙ held_from counts n [] ledger

-- rule: holds.held-unended
pub reserved_is_unended : IsReservedUnended
reserved_is_unended v t ledger c =
    held_is_unended (λ s g. is_live v t ledger s) c.number ledger
