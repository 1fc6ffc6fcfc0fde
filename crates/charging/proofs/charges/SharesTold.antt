-- The facts of what a call charges and holds.
use Rattle.std.proofs.Common.{◌≡◌, ℕ, ◌+◌, Bool, true, false, List, [], ◌∷◌, ◌++◌, map, refl, ap}
use Rattle.std.proofs.Common.{◌∙◌, arith}
use Rattle.std.specs.Prelude.{if◌then◌else◌, ◌==◌}
use Rattle.std.proofs.lemmas.List.Sums.{sum_by-cons}
use Rattle.buckets.specs.declared.holds.HeldAmount.{HeldAmount}
use Rattle.buckets.proofs.Parts.{sum_at}
use Rattle.ledger.specs.Ledger.{charged, held}
use Rattle.ledger.specs.Ledger.Fact.{Charge, Hold}
use Rattle.ledger.specs.Settlement.{charge_facts}
use Rattle.ledger.specs.Reservation.{hold_facts, hold_for}
use Rattle.ledger.proofs.Fronts.{charged-charge_facts, charged-hold_facts, credits-charge_facts}
use Rattle.ledger.proofs.Fronts.{credits-hold_facts, held-charge_facts, held-hold_facts}
use Rattle.ledger.proofs.Fronts.{held-hold_facts_other}
use Rattle.charging.specs.SharesTold.{taken_of, ChargesAreShares}
use Rattle.charging.specs.SharesTold.{HoldsAreShares}

sum_is : (n : ℕ) (shares : List HeldAmount) → sum_at n shares ≡ taken_of n shares
sum_is n [] = refl
sum_is n (h ∷ hs) =
    omega (
      arith,
      sum_is n hs,
      sum_by-cons (λ x. if x.bucket == n then x.amount else 0) h hs,
    )

charges_are : (t : ℕ) (shares : List HeldAmount) →
    charge_facts t shares ≡ map (λ h. record { at = t; fact = Charge h.bucket h.amount }) shares
charges_are t [] = refl
charges_are t (h ∷ hs) =
    ap (λ l. record { at = t; fact = Charge h.bucket h.amount } ∷ l) (charges_are t hs)

holds_are : (t : ℕ) (s : List ℕ) (g : ℕ) (shares : List HeldAmount) →
    hold_facts t s g shares
    ≡ map (λ h. record { at = t; fact = Hold (hold_for s g h) }) shares
holds_are t s g [] = refl
holds_are t s g (h ∷ hs) =
    ap (λ l. record { at = t; fact = Hold (hold_for s g h) } ∷ l) (holds_are t s g hs)

-- rule: shares.taken-of
pub charges_are_shares : ChargesAreShares
charges_are_shares t shares ledger = record {
  facts = charges_are t shares;
  charged_more = λ n. charged-charge_facts n t shares ledger
      ∙ ap (λ x. x + charged n ledger) (sum_is n shares);
  held_same = λ counts n. held-charge_facts counts n t shares ledger;
  credits_same = credits-charge_facts t shares ledger;
}

-- rule: shares.taken-of
pub holds_are_shares : HoldsAreShares
holds_are_shares t s g shares ledger = record {
  facts = holds_are t s g shares;
  held_more = λ counts n. at counts n (counts s g) refl;
  charged_same = λ n. charged-hold_facts n t s g shares ledger;
  credits_same = credits-hold_facts t s g shares ledger;
}
  where
    at : (counts : List ℕ → ℕ → Bool) (n : ℕ) (k : Bool) → counts s g ≡ k →
        held counts n (hold_facts t s g shares ++ ledger)
        ≡ (if k then taken_of n shares else 0) + held counts n ledger
    at counts n true e =
        held-hold_facts counts n t s g shares ledger e
        ∙ ap (λ x. x + held counts n ledger) (sum_is n shares)
    at counts n false e =
        let same = held-hold_facts_other counts n t s g shares ledger e in omega (arith, same)
