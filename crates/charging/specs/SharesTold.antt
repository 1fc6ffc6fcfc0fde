-- What a call charges and holds, as facts of a ledger: each share is one, and each changes the sums
-- of its bucket alone.
-- Source: TS 32.296, account balance management function; the ledger: profile.
use Rattle.std.specs.Prelude.{◌≡◌, ◌+◌, Bool, ◌==◌, List, ◌++◌, map, sum_by, if◌then◌else◌}
use Rattle.units.specs.Words.{Moment, GroupId}
use Rattle.identifiers.specs.Words.{SessionName}
use Rattle.buckets.specs.Words.{BucketNumber, BucketAmount}
use Rattle.buckets.specs.declared.holds.HeldAmount.{HeldAmount}
use Rattle.ledger.specs.Ledger.{Ledger, charged, held}
use Rattle.ledger.specs.Ledger.Fact.{Charge, Hold}
use Rattle.ledger.specs.Balance.{credits}
use Rattle.ledger.specs.Settlement.{charge_facts}
use Rattle.ledger.specs.Reservation.{hold_for, hold_facts}

-- what shares take of a bucket
-- rule: shares.taken-of: each share of a charge or a hold is one fact, of its bucket alone
abbrev pub taken_of : BucketNumber → List HeldAmount → BucketAmount
taken_of n shares = sum_by (λ h. if h.bucket == n then h.amount else 0) shares

-- charges: one a share, in the order of the shares, and each bucket's sum grows by what they take
-- of it
-- rule: shares.taken-of
pub record AreCharged (t : Moment) (shares : List HeldAmount) (ledger : Ledger) : Type 0 where
  pub facts : charge_facts t shares
      ≡ map (λ h. record { at = t; fact = Charge h.bucket h.amount }) shares
  pub charged_more : (n : BucketNumber) →
      charged n (charge_facts t shares ++ ledger) ≡ taken_of n shares + charged n ledger
  pub held_same : (counts : SessionName → GroupId → Bool) (n : BucketNumber) →
      held counts n (charge_facts t shares ++ ledger) ≡ held counts n ledger
  pub credits_same : credits (charge_facts t shares ++ ledger) ≡ credits ledger

-- holds: one a share, and what is held of each bucket grows by what they take of it, where the
-- reservation counts
-- rule: shares.taken-of
pub record AreHeld (t : Moment) (session : SessionName) (group : GroupId) (shares : List HeldAmount)
    (ledger : Ledger) : Type 0 where
  pub facts : hold_facts t session group shares
      ≡ map (λ h. record { at = t; fact = Hold (hold_for session group h) }) shares
  pub held_more : (counts : SessionName → GroupId → Bool) (n : BucketNumber) →
      held counts n (hold_facts t session group shares ++ ledger)
      ≡ (if counts session group then taken_of n shares else 0) + held counts n ledger
  pub charged_same : (n : BucketNumber) →
      charged n (hold_facts t session group shares ++ ledger) ≡ charged n ledger
  pub credits_same : credits (hold_facts t session group shares ++ ledger) ≡ credits ledger

abbrev pub ChargesAreShares : Type 0
ChargesAreShares = (t : Moment) (shares : List HeldAmount) (ledger : Ledger) →
    AreCharged t shares ledger

abbrev pub HoldsAreShares : Type 0
HoldsAreShares = (t : Moment) (session : SessionName) (group : GroupId) (shares : List HeldAmount)
    (ledger : Ledger) →
    AreHeld t session group shares ledger
