-- The charges of newer facts go on from the number of the next charge.
use Rattle.std.proofs.Common.{◌≡◌, ℕ, ◌+◌, List, [], ◌∷◌, ◌++◌, length, refl, sym, ap, ◌∙◌, arith}
use Rattle.std.proofs.Common.{append-nil, append_assoc, length-append, Option, Some, None}
use Rattle.ledger.specs.declared.charge.ChargeRow.{ChargeRow}
use Rattle.ledger.specs.Ledger.{Ledger, UseOf, counts, number_of, next_charge}
use Rattle.ledger.specs.Charges.{charge_of, charge_by, charge_rows}
use Rattle.ledger.specs.Laws.{AreNumberedFrom, GoOn}

-- one more at the end
numbered_more : (n m : ℕ) (cs ds : List ChargeRow) → m ≡ n + length cs → AreNumberedFrom n cs →
    AreNumberedFrom m ds → AreNumberedFrom n (cs ++ ds)
numbered_more n m [] ds e h k = (let same : m ≡ n = omega (arith, e) in rw (← same) k)
numbered_more n m (c ∷ cs) ds e h k =
    (h.0, numbered_more (n + 1) m cs ds (omega (arith, e)) h.1 k)

-- a use adds one charge, of the next number, and no other fact any
record IsOneUse (n t : ℕ) (o : Option UseOf) : Type 0 where
  numbered : AreNumberedFrom n (charge_by n t o)
  count : length (charge_by n t o) ≡ number_of (λ u. 1) o

one_use : (n t : ℕ) (o : Option UseOf) → IsOneUse n t o
one_use n t None = record { numbered = tt; count = refl }
one_use n t (Some u) = record { numbered = (refl, tt); count = refl }

-- rule: database-loads.go-on
pub goes_on : (newer older : Ledger) → GoOn newer older
goes_on [] older = record {
  added = [];
  are = sym (append-nil (charge_rows older));
  numbered = tt;
  next = omega arith;
}
goes_on (d ∷ ds) older =
    let rest : GoOn ds older = goes_on ds older in
    let here : ℕ = next_charge (ds ++ older) in
    let one : IsOneUse here d.at (counts d.fact).usage = one_use here d.at (counts d.fact).usage in
    record {
      added = rest.added ++ charge_of here d;
      are =
          ap (λ rows. rows ++ charge_of here d) rest.are
          ∙ append_assoc (charge_rows older) rest.added (charge_of here d);
      numbered =
          numbered_more (next_charge older) here rest.added (charge_of here d) rest.next
          rest.numbered one.numbered;
      next = omega (arith, rest.next, one.count, length-append rest.added (charge_of here d));
    }
