-- What each step of a ledger keeps, every ledger of an account keeps.
use Rattle.std.proofs.Common.{◌≡◌, ℕ, Bool, true, false, List, ◌∷◌, Option, Some, None, refl}
use Rattle.std.specs.Prelude.{nat_lt, is_some}
use Rattle.units.specs.declared.blocks.UsedPart.{UsedPart}
use Rattle.shelves.specs.Shelves.{Shelf}
use Rattle.rating.specs.declared.grant.Grant.{Grant as RatedGrant}
use Rattle.buckets.specs.declared.kind.BucketKind.{BucketKind}
use Rattle.ledger.specs.Ledger.{Fact, Ledger, counts, last_recording, used}
use Rattle.ledger.specs.Ledger.Fact.{Grant}
use Rattle.ledger.specs.Requests.{recorded, touched, credited}
use Rattle.ledger.specs.Settlement.{settled_by}
use Rattle.ledger.specs.Reservation.{grant_at, reserved, grant_for, held_due}
use Rattle.ledger.specs.Debiting.{debited, is_covered}
pub use Rattle.reserving.proofs.Counted.{is_quiet, IsInPlace, IsQuiet, quiet}
use Rattle.charging.specs.Paid.{Report, is_touched}
use Rattle.charging.specs.PaidParts.{with_report}

-- a grant's first fact, before its holds
abbrev pub with_grant : Shelf → ℕ → List ℕ → ℕ → ℕ → Ledger → Ledger
with_grant b t s g units ledger =
    record { at = t; fact = Grant (grant_at b t s g units ledger) } ∷ ledger

-- the ledger with the grant of a session's group, as far as the allowance and the funds cover it
abbrev pub granted : Shelf → ℕ → List ℕ → ℕ → Option ℕ → Ledger → Ledger
granted b t s g asked ledger = let grant : RatedGrant =
    grant_for b t g (used s g ledger) asked ledger in reserved b t s g grant.units.0
    (held_due grant) ledger

abbrev pub is_touch : Fact → Bool
is_touch f = is_some (counts f).touch

pub untouched : (f : Fact) → is_touch f ≡ false → (counts f).touch ≡ None
untouched f e = at (counts f).touch e
  where
    at : (o : Option (List ℕ)) → is_some o ≡ false → o ≡ None
    at None k = refl
    at (Some x) k = cc

-- a property of an account's reports and ledger is kept by each step that its commands take
pub record Keeps (b : Shelf) (P : List Report → Ledger → Type 0) : Type 0 where
  pub quiet : (t : ℕ) (f : Fact) (reports : List Report) (ledger : Ledger) → is_quiet f ≡ true →
      is_touch f ≡ false → IsInPlace (counts f) ledger → P reports ledger →
      P reports (record { at = t; fact = f } ∷ ledger)
  pub touch : (t : ℕ) (s : List ℕ) (n : ℕ) (reports : List Report) (ledger : Ledger) →
      P reports ledger → P reports (touched t s n ledger)
  pub credit : (t : ℕ) (kind : BucketKind) (from until : ℕ) (scope : Option ℕ) (amount : ℕ)
      (reports : List Report) (ledger : Ledger) → P reports ledger →
      P reports (credited t kind from until scope amount ledger)
  -- of a session that was touched
  pub settle : (t : ℕ) (s : List ℕ) (g : ℕ) (parts : List UsedPart) (reports : List Report)
      (ledger : Ledger) → is_touched s ledger ≡ true → P reports ledger →
      P (with_report t s g parts reports) (settled_by b t s g parts ledger)
  -- of a session that is recorded, of some units
  pub grant : (t : ℕ) (s : List ℕ) (g : ℕ) (asked : Option ℕ) (reports : List Report)
      (ledger : Ledger) → (last_recording s ledger ≡ None → ⊥) →
      nat_lt 0 (grant_for b t g (used s g ledger) asked ledger).units.0 ≡ true →
      P reports ledger → P reports (granted b t s g asked ledger)
  -- of an event whose name isn't recorded yet, with its record
  pub event : (t : ℕ) (s : List ℕ) (g units n : ℕ) (reports : List Report) (ledger : Ledger) →
      last_recording s ledger ≡ None → is_covered b t g units ledger ≡ true → P reports ledger →
      P reports (recorded t s n (debited b t s g units ledger))
