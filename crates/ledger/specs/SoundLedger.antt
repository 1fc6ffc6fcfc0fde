-- What the ledger of an account's accepted commands is, whatever they are.
-- Source: profile.
use Rattle.std.specs.Prelude.{◌≡◌, ◌≤◌, Bool, false, Some, None, option_map}
use Rattle.units.specs.Words.{Moment, GroupId}
use Rattle.identifiers.specs.Words.{SessionName}
use Rattle.buckets.specs.Words.{BucketNumber}
use Rattle.ledger.specs.Ledger.{Ledger, charged, held, is_same, is_closed, open_grant}
use Rattle.ledger.specs.Ledger.{last_touch, last_recording, next_bucket}

-- a session without a recorded request has nothing else either
-- rule: ledger.sound-ledger
pub record IsUnknown (s : SessionName) (ledger : Ledger) : Type 0 where
  pub closed : is_closed s ledger ≡ false
  pub held : (n : BucketNumber) → held (λ x g. is_same x s) n ledger ≡ 0
  pub granted : (g : GroupId) → open_grant s g ledger ≡ None

-- rule: ledger.sound-ledger: the ledger of each history is sound
pub record IsSoundLedger (ledger : Ledger) : Type 0 where
  -- a session's last touch is recorded
  pub touched : (s : SessionName) (x : Moment) → last_touch s ledger ≡ Some x →
      option_map (λ r. r.at) (last_recording s ledger) ≡ Some x
  pub unknown : (s : SessionName) → last_recording s ledger ≡ None → IsUnknown s ledger
  -- nothing is charged or held of a bucket that isn't made yet
  pub fresh : (n : BucketNumber) → next_bucket ledger ≤ n → charged n ledger ≡ 0
  pub free : (n : BucketNumber) (counts : SessionName → GroupId → Bool) → next_bucket ledger ≤ n →
      held counts n ledger ≡ 0
