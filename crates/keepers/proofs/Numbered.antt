-- The charges of a ledger rise in their numbers.
use Rattle.std.proofs.Common.{◌≡◌, ◌⊎◌, inl, inr, ℕ, ◌+◌, ◌<◌, ◌≤◌, true, List, [], ◌∷◌, ◌++◌, refl}
use Rattle.std.proofs.Common.{sym, ap, ◌∙◌, subst, arith, append-nil, Option, Some, None}
use Rattle.std.specs.Prelude.{nat_le}
use Rattle.std.proofs.lemmas.Bool.{and_from}
use Rattle.std.proofs.lemmas.Bool.Decides.{nat_tests}
use Rattle.ledger.specs.ChargeColumns.{ChargeColumns}
use Rattle.ledger.specs.Charges.{charge_by, charge_rows}
use Rattle.ledger.specs.Ledger.{Ledger, UseOf, counts as counts_of, number_of, next_charge}
use Rattle.keepers.specs.Rows.{are_rising}
use Rattle.keepers.proofs.Unique.{rising_parts}

abbrev AreBelow : ℕ → List ChargeColumns → Type 0
AreBelow n [] = Unit {0}
AreBelow n (c ∷ rest) = (c.number < n) × AreBelow n rest

-- a fact adds one charge, under this number, or none
record AddsOne (n t : ℕ) (o : Option UseOf) : Type 0 where
  pub row : ChargeColumns
  pub is : charge_by n t o ≡ row ∷ []
  pub number : row.number ≡ n
  pub counts : number_of (λ u. 1) o ≡ 1

record AddsNone (n t : ℕ) (o : Option UseOf) : Type 0 where
  pub is : charge_by n t o ≡ []
  pub counts : number_of (λ u. 1) o ≡ 0

adds : (n t : ℕ) (o : Option UseOf) → AddsOne n t o ⊎ AddsNone n t o
adds n t None = inr (record { is = refl; counts = refl })
adds n t (Some u) = inl (record { row = _; is = refl; number = refl; counts = refl })

more_below : (n m : ℕ) (rows : List ChargeColumns) → n ≤ m → AreBelow n rows → AreBelow m rows
more_below n m [] le h = tt
more_below n m (c ∷ rest) le h = let low = h.0 in
    (omega (arith, low, le), more_below n m rest le h.1)

below_push : (n : ℕ) (rows : List ChargeColumns) (c : ChargeColumns) → AreBelow n rows →
    c.number < n →
    AreBelow n (rows ++ c ∷ [])
below_push n [] c h low = (low, tt)
below_push n (d ∷ rest) c h low = (h.0, below_push n rest c h.1 low)

rising_push : (least : ℕ) (rows : List ChargeColumns) (c : ChargeColumns) →
    are_rising least rows ≡ true →
    AreBelow c.number rows → least ≤ c.number → are_rising least (rows ++ c ∷ []) ≡ true
rising_push least [] c h below low =
    and_from (nat_le least c.number) true (grind (arith, nat_tests, low)) refl
rising_push least (d ∷ rest) c h below low =
    let parts = rising_parts least d rest h in
    let first = parts.0 in
    let less = below.0 in
    and_from (nat_le least d.number) (are_rising (d.number + 1) (rest ++ c ∷ []))
    (grind (arith, nat_tests, first))
    (rising_push (d.number + 1) rest c parts.1 below.1 (omega (arith, less)))

record AreNumbered (ledger : Ledger) : Type 0 where
  pub rising : are_rising 0 (charge_rows ledger) ≡ true
  pub below : AreBelow (next_charge ledger) (charge_rows ledger)

numbered : (ledger : Ledger) → AreNumbered ledger
numbered [] = record { rising = refl; below = tt }
numbered (d ∷ older) =
    at (adds (next_charge older) d.at (counts_of d.fact).usage) (numbered older)
  where
    at : AddsOne (next_charge older) d.at (counts_of d.fact).usage
        ⊎ AddsNone (next_charge older) d.at (counts_of d.fact).usage →
        AreNumbered older → AreNumbered (d ∷ older)
    at (inl one) h =
        let rows = ap (λ l. charge_rows older ++ l) one.is in
        let number = one.number in
        let counts = one.counts in
        record {
          rising = ap (are_rising 0) rows
              ∙ rising_push 0 (charge_rows older) one.row h.rising
              (subst (λ n. AreBelow n (charge_rows older)) (sym number) h.below) (omega arith);
          below = subst (AreBelow (next_charge (d ∷ older))) (sym rows)
              (below_push (next_charge (d ∷ older)) (charge_rows older) one.row
              (more_below (next_charge older) (next_charge (d ∷ older)) (charge_rows older)
              (omega (arith, counts)) h.below)
              (omega (arith, number, counts)));
        }
    at (inr none) h =
        let rows = ap (λ l. charge_rows older ++ l) none.is ∙ append-nil (charge_rows older) in
        let counts = none.counts in
        record {
          rising = ap (are_rising 0) rows ∙ h.rising;
          below = subst (AreBelow (next_charge (d ∷ older))) (sym rows)
              (more_below (next_charge older) (next_charge (d ∷ older)) (charge_rows older)
              (omega (arith, counts)) h.below);
        }

pub charges_rise : (ledger : Ledger) → are_rising 0 (charge_rows ledger) ≡ true
charges_rise ledger = (numbered ledger).rising
