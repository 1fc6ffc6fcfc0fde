-- The ledger of each history is sound.
use Rattle.std.proofs.Common.{◌≡◌, ℕ, true, false, List, [], ◌∷◌, ◌∙◌, None}
use Rattle.shelves.specs.Shelves.{Shelf}
use Rattle.buckets.specs.declared.holds.HeldAmount.{HeldAmount}
use Rattle.buckets.specs.Row.{BucketRow}
use Rattle.buckets.specs.Share.{parts}
use Rattle.buckets.specs.Holding.{paid}
use Rattle.ledger.specs.Ledger.{Fact, Ledger, last_recording, counts}
use Rattle.ledger.specs.SoundLedger.{IsSoundLedger}
use Rattle.ledger.specs.Balance.{buckets_at}
use Rattle.ledger.specs.Settlement.{due_of}
use Rattle.ledger.specs.Debiting.{rest_price, debited}
use Rattle.reserving.proofs.Crediting.{IsSoundLedger-credited}
use Rattle.reserving.proofs.SettledRows.{IsSoundLedger-settled_by}
use Rattle.reserving.proofs.rows.Touching.{IsSoundLedger-touched, IsSoundLedger-recorded}
use Rattle.reserving.proofs.Counted.{IsSoundLedger-quiet}
use Rattle.reserving.proofs.rows.Empty.{IsSoundLedger-none}
use Rattle.reserving.proofs.rows.Reserved.{IsSoundLedger-reserved}
use Rattle.reserving.proofs.rows.Debited.{IsSoundLedger-debited}
use Rattle.ledger.specs.Pricing.{validity_of}
use Rattle.charging.specs.Paid.{Report}
use Rattle.charging.proofs.steps.Steps.{is_quiet, quiet, is_touch, untouched, IsInPlace, Keeps}
use Rattle.charging.proofs.steps.Credited.{all_made}
use Rattle.charging.proofs.steps.Recorded.{charges_record}
use Rattle.charging.proofs.charges.Paying.{IsPaying, paying_none, keeps_paying}

pub record IsSoundHistory (b : Shelf) (reports : List Report) (ledger : Ledger) : Type 0 where
  pub paying : IsPaying b reports ledger
  pub sound : IsSoundLedger ledger

sound_quiet : (t : ℕ) (f : Fact) (ledger : Ledger) → is_quiet f ≡ true → is_touch f ≡ false →
    IsInPlace (counts f) ledger → IsSoundLedger ledger →
    IsSoundLedger (record { at = t; fact = f } ∷ ledger)
sound_quiet t f ledger q n fits h =
    IsSoundLedger-quiet t ledger h f (quiet f q) (untouched f n) fits

sound_debited : (b : Shelf) (t : ℕ) (s : List ℕ) (g units : ℕ) (reports : List Report)
    (ledger : Ledger) → IsSoundHistory b reports ledger →
    IsSoundLedger (debited b t s g units ledger)
sound_debited b t s g units reports ledger h =
    IsSoundLedger-debited (validity_of b) t s g units (rest_price b t g units ledger).blocks
    (due_of (rest_price b t g units ledger)) ledger
    (all_made (validity_of b) t ledger h.paying.credits) h.sound

-- a debit records nothing by itself
new_debited : (b : Shelf) (t : ℕ) (s : List ℕ) (g units : ℕ) (ledger : Ledger) →
    last_recording s ledger ≡ None → last_recording s (debited b t s g units ledger) ≡ None
new_debited b t s g units ledger new =
    let rows : List BucketRow = buckets_at (validity_of b) t ledger in
    let hs : List HeldAmount =
    parts (paid [] g t (due_of (rest_price b t g units ledger)) rows) rows in
    charges_record s t hs ledger ∙ new

pub sound_none : (b : Shelf) → IsSoundHistory b [] []
sound_none b = record { paying = paying_none b; sound = IsSoundLedger-none }

-- rule: ledger.sound-ledger
pub keeps_sound : (b : Shelf) → Keeps b (IsSoundHistory b)
keeps_sound b = record {
  quiet = λ t f reports ledger q n fits h. record {
    paying = paying.quiet t f reports ledger q n fits h.paying;
    sound = sound_quiet t f ledger q n fits h.sound;
  };
  touch = λ t s n reports ledger h. record {
    paying = paying.touch t s n reports ledger h.paying;
    sound = IsSoundLedger-touched t s n ledger h.sound;
  };
  credit = λ t kind from until scope amount reports ledger h. record {
    paying = paying.credit t kind from until scope amount reports ledger h.paying;
    sound = IsSoundLedger-credited t kind from until scope amount ledger h.sound;
  };
  settle = λ t s g used_parts reports ledger touches h. record {
    paying = paying.settle t s g used_parts reports ledger touches h.paying;
    sound = IsSoundLedger-settled_by b t s g used_parts ledger
        (all_made (validity_of b) t ledger h.paying.credits) h.sound;
  };
  grant = λ t s g asked reports ledger has some h. record {
    paying = paying.grant t s g asked reports ledger has some h.paying;
    sound = IsSoundLedger-reserved b t s g _ _ ledger
        (all_made (validity_of b) t ledger h.paying.credits) has h.sound;
  };
  event = λ t s g units n reports ledger new covered h. record {
    paying = paying.event t s g units n reports ledger new covered h.paying;
    sound = IsSoundLedger-recorded t s n (debited b t s g units ledger)
        (new_debited b t s g units ledger new)
        (sound_debited b t s g units reports ledger h);
  };
}
  where
    paying : Keeps b (IsPaying b)
    paying = keeps_paying b
