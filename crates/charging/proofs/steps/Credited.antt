-- The buckets of each ledger are in order, and no two have one number.
use Rattle.std.proofs.Common.{◌≡◌, ℕ, ◌+◌, true, List, [], ◌∷◌, ◌++◌, refl, sym, subst, arith}
use Rattle.std.proofs.Common.{Option}
use Rattle.buckets.specs.declared.holds.HeldAmount.{HeldAmount}
use Rattle.buckets.specs.declared.kind.BucketKind.{BucketKind}
use Rattle.buckets.specs.Row.{BucketRow, new_row}
use Rattle.buckets.specs.Spend.{IsInOrder, AreDistinct, IsBelow, inserted}
use Rattle.buckets.proofs.SharesAlong.{KeepsPlace, IsInOrder-map, IsInOrder-inserted}
use Rattle.buckets.proofs.Kept.{AreDistinct-map, AreDistinct-inserted}
use Rattle.ledger.specs.Ledger.{Fact, Ledger, next_bucket}
use Rattle.ledger.specs.Balance.{credits, bucket_at, buckets_at}
use Rattle.ledger.specs.Requests.{credited}
use Rattle.ledger.specs.Settlement.{charge_facts}
use Rattle.ledger.specs.Reservation.{hold_facts}
use Rattle.reserving.proofs.Crediting.{IsBelow-inserted}
use Rattle.reserving.proofs.rows.Lapsing.{IsBelow-map}
use Rattle.charging.proofs.steps.Steps.{is_quiet}
use Rattle.reserving.proofs.rows.Touching.{SameMoney}
use Rattle.reserving.proofs.Counted.{quiet, quiet_money}

-- ---- the buckets of a ledger

pub record AreCredited (rows : List BucketRow) (next : ℕ) : Type 0 where
  pub order : IsInOrder rows
  pub distinct : AreDistinct rows
  pub below : IsBelow next rows

pub no_credits : AreCredited [] 1
no_credits = record { order = tt; distinct = tt; below = tt }

-- one more
pub more_credits : (t : ℕ) (kind : BucketKind) (from until : ℕ) (scope : Option ℕ) (amount : ℕ)
    (ledger : Ledger) → AreCredited (credits ledger) (next_bucket ledger) →
    AreCredited (credits (credited t kind from until scope amount ledger))
    (next_bucket (credited t kind from until scope amount ledger))
more_credits t kind from until scope amount ledger h =
    let b : BucketRow = new_row kind (next_bucket ledger) from until scope amount in
    let next : next_bucket ledger + 1
    ≡ next_bucket (credited t kind from until scope amount ledger) = omega arith in
    record {
      order = IsInOrder-inserted b (credits ledger) h.below h.order;
      distinct = AreDistinct-inserted b (credits ledger) h.below h.distinct;
      below = subst (λ n. IsBelow n (inserted b (credits ledger))) next
          (IsBelow-inserted (next_bucket ledger) b (credits ledger) (omega arith) h.below);
    }

-- facts that make no bucket
pub record SameCredits (new old : Ledger) : Type 0 where
  pub rows : credits new ≡ credits old
  pub next : next_bucket new ≡ next_bucket old

pub same_credits : (new old : Ledger) → SameCredits new old →
    AreCredited (credits old) (next_bucket old) → AreCredited (credits new) (next_bucket new)
same_credits new old same h =
    subst (λ rows. AreCredited rows (next_bucket new)) (sym same.rows)
    (subst (AreCredited (credits old)) (sym same.next) h)

pub quiet_credits : (t : ℕ) (f : Fact) (ledger : Ledger) → is_quiet f ≡ true →
    SameCredits (record { at = t; fact = f } ∷ ledger) ledger
quiet_credits t f ledger q =
    let money : SameMoney (record { at = t; fact = f } ∷ ledger) ledger =
    quiet_money t f ledger (quiet f q) in
    record { rows = money.credits; next = money.next_bucket }

pub charge_credits : (t : ℕ) (hs : List HeldAmount) (ledger : Ledger) →
    SameCredits (charge_facts t hs ++ ledger) ledger
charge_credits t [] ledger = record { rows = refl; next = refl }
charge_credits t (h ∷ hs) ledger =
    record {
      rows = (charge_credits t hs ledger).rows;
      next = omega (arith, (charge_credits t hs ledger).next);
    }

pub hold_credits : (t : ℕ) (s : List ℕ) (g : ℕ) (hs : List HeldAmount) (ledger : Ledger) →
    SameCredits (hold_facts t s g hs ++ ledger) ledger
hold_credits t s g [] ledger = record { rows = refl; next = refl }
hold_credits t s g (h ∷ hs) ledger =
    record {
      rows = (hold_credits t s g hs ledger).rows;
      next = omega (arith, (hold_credits t s g hs ledger).next);
    }

-- ---- their positions

position_kept : (v : ℕ → ℕ) (t : ℕ) (ledger : Ledger) → KeepsPlace (bucket_at v t ledger)
position_kept v t ledger = record { number = λ c. refl; until = λ c. refl }

pub in_order : (v : ℕ → ℕ) (t : ℕ) (ledger : Ledger) →
    AreCredited (credits ledger) (next_bucket ledger) →
    IsInOrder (buckets_at v t ledger)
in_order v t ledger h = IsInOrder-map (bucket_at v t ledger) (credits ledger)
    (position_kept v t ledger) h.order

pub all_made : (v : ℕ → ℕ) (t : ℕ) (ledger : Ledger) →
    AreCredited (credits ledger) (next_bucket ledger) →
    IsBelow (next_bucket ledger) (buckets_at v t ledger)
all_made v t ledger h =
    IsBelow-map (next_bucket ledger) (bucket_at v t ledger) (credits ledger) (λ c. refl) h.below

pub distinct : (v : ℕ → ℕ) (t : ℕ) (ledger : Ledger) →
    AreCredited (credits ledger) (next_bucket ledger) →
    AreDistinct (buckets_at v t ledger)
distinct v t ledger h = AreDistinct-map (bucket_at v t ledger) (credits ledger)
    (position_kept v t ledger) h.distinct
