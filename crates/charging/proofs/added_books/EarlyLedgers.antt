-- A ledger whose facts are before a moment and whose grants have the books up to a number: each
-- step of a command before the moment leaves such a one.
use Rattle.std.proofs.Common.{ℕ, ◌<◌, ◌≤◌, Bool, List, [], ◌∷◌, ◌++◌, Option, arith}
use Rattle.units.specs.declared.blocks.UsedPart.{UsedPart}
use Rattle.buckets.specs.declared.holds.HeldAmount.{HeldAmount}
use Rattle.buckets.specs.declared.kind.BucketKind.{BucketKind}
use Rattle.buckets.specs.declared.kind.Due.{Due}
use Rattle.shelves.specs.Shelves.{Shelf, count, number_at}
use Rattle.shelves.proofs.Begun.{begun_few}
use Rattle.ledger.specs.Ledger.{Ledger}
use Rattle.ledger.specs.Requests.{recorded, touched, closed, credited, with_bar}
use Rattle.ledger.specs.Settlement.{settled_by, charge_facts}
use Rattle.ledger.specs.Reservation.{reserved, hold_facts}
use Rattle.ledger.specs.Debiting.{debited}
use Rattle.reserving.proofs.LaterBooks.{IsBefore}
use Rattle.reserving.proofs.LaterCalls.{AreNumbered}
use Rattle.charging.proofs.steps.Steps.{with_grant}

-- each fact is dated before the moment, and each grant's book has a number up to this one
pub record IsEarly (from n : ℕ) (ledger : Ledger) : Type 0 where
  pub before : IsBefore from ledger
  pub numbered : AreNumbered n ledger

-- by the moment at which the facts are added
module _ (from n t : ℕ) (early : t < from) where
  pub early_recorded : (s : List ℕ) (number : ℕ) (ledger : Ledger) → IsEarly from n ledger →
      IsEarly from n (recorded t s number ledger)
  early_recorded s number ledger h =
      record { before = (early, h.before); numbered = (tt, h.numbered) }

  pub early_touched : (s : List ℕ) (number : ℕ) (ledger : Ledger) → IsEarly from n ledger →
      IsEarly from n (touched t s number ledger)
  early_touched s number ledger h = record {
    before = (early, (early, h.before));
    numbered = (tt, (tt, h.numbered));
  }

  pub early_closed : (s : List ℕ) (ledger : Ledger) → IsEarly from n ledger →
      IsEarly from n (closed t s ledger)
  early_closed s ledger h = record { before = (early, h.before); numbered = (tt, h.numbered) }

  pub early_credited : (kind : BucketKind) (start until : ℕ) (scope : Option ℕ) (amount : ℕ)
      (ledger : Ledger) → IsEarly from n ledger →
      IsEarly from n (credited t kind start until scope amount ledger)
  early_credited kind start until scope amount ledger h =
      record { before = (early, h.before); numbered = (tt, h.numbered) }

  pub early_barred : (barred : Bool) (ledger : Ledger) → IsEarly from n ledger →
      IsEarly from n (with_bar t barred ledger)
  early_barred barred ledger h = record { before = (early, h.before); numbered = (tt, h.numbered) }

  early_charges : (hs : List HeldAmount) (ledger : Ledger) → IsEarly from n ledger →
      IsEarly from n (charge_facts t hs ++ ledger)
  early_charges [] ledger h = h
  early_charges (x ∷ xs) ledger h =
      let rest : IsEarly from n (charge_facts t xs ++ ledger) = early_charges xs ledger h in
      record { before = (early, rest.before); numbered = (tt, rest.numbered) }

  early_holds : (s : List ℕ) (g : ℕ) (hs : List HeldAmount) (ledger : Ledger) →
      IsEarly from n ledger →
      IsEarly from n (hold_facts t s g hs ++ ledger)
  early_holds s g [] ledger h = h
  early_holds s g (x ∷ xs) ledger h =
      let rest : IsEarly from n (hold_facts t s g xs ++ ledger) = early_holds s g xs ledger h in
      record { before = (early, rest.before); numbered = (tt, rest.numbered) }

  pub early_settled : (b : Shelf) (s : List ℕ) (g : ℕ) (parts : List UsedPart) (ledger : Ledger) →
      IsEarly from n ledger → IsEarly from n (settled_by b t s g parts ledger)
  early_settled b s g [] ledger h =
      record { before = (early, h.before); numbered = (tt, h.numbered) }
  early_settled b s g (p ∷ ps) ledger h = let rest = early_charges _ ledger h in record {
    before = (early, (early, rest.before));
    numbered = (tt, (tt, rest.numbered));
  }

  pub early_debited : (b : Shelf) (s : List ℕ) (g units : ℕ) (ledger : Ledger) →
      IsEarly from n ledger → IsEarly from n (debited b t s g units ledger)
  early_debited b s g units ledger h = let rest = early_charges _ ledger h in
      record { before = (early, rest.before); numbered = (tt, rest.numbered) }

-- a grant has a book of the shelf
early_granted : (from t : ℕ) → t < from → (b : Shelf) (s : List ℕ) (g units : ℕ)
    (ledger : Ledger) → IsEarly from (count b) ledger →
    IsEarly from (count b) (with_grant b t s g units ledger)
early_granted from t early b s g units ledger h =
    let few : number_at b t ≤ count b = (let most = begun_few b.later t in omega (arith, most)) in
    record { before = (early, h.before); numbered = (few, h.numbered) }

pub early_reserved : (from t : ℕ) → t < from → (b : Shelf) (s : List ℕ) (g units : ℕ) (due : Due)
    (ledger : Ledger) → IsEarly from (count b) ledger →
    IsEarly from (count b) (reserved b t s g units due ledger)
early_reserved from t early b s g units due ledger h =
    early_holds from (count b) t early s g _ _ (early_granted from t early b s g units ledger h)
