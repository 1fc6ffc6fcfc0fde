-- Each group and each touch of an account's ledger is of a recorded session.
use Rattle.std.proofs.Common.{◌≡◌, ℕ, Bool, true, false, true≢false, List, [], ◌∷◌, ◌++◌, refl, sym}
use Rattle.std.proofs.Common.{ap, ◌∙◌, Option, Some, None}
use Rattle.std.specs.Prelude.{if◌then◌else◌, ◌&&◌, ◌||◌, ◌==◌, is_some}
use Rattle.units.specs.declared.blocks.UsedPart.{UsedPart}
use Rattle.ledger.specs.Settlement.{due_of, charge_facts, report_price, settled_by, use_of}
use Rattle.buckets.specs.declared.holds.HeldAmount.{HeldAmount}
use Rattle.buckets.specs.Holding.{paid}
use Rattle.buckets.specs.Share.{parts}
use Rattle.shelves.specs.Shelves.{Shelf}
use Rattle.ledger.specs.Ledger.{Fact, Ledger, Recording, is_same, or_else}
use Rattle.ledger.specs.Parts.{names_group, touch_in}
use Rattle.ledger.specs.Ledger.{has_group, last_touch, last_recording, HoldOf}
use Rattle.ledger.specs.Parts.{recorded_at}
use Rattle.ledger.specs.Ledger.{counts}
use Rattle.ledger.specs.Parts.{touched_at}
use Rattle.ledger.specs.Ledger.Fact.{Grant, Hold, End, Use, Charge}
use Rattle.ledger.specs.Requests.{recorded, touched}
use Rattle.ledger.specs.Reservation.{hold_facts, grant_at, hold_for}
use Rattle.ledger.specs.Balance.{buckets_at, holds_at}
use Rattle.ledger.specs.Debiting.{debited, rest_price}
use Rattle.reserving.proofs.Lists.{no_some}
use Rattle.ledger.proofs.Holds.{same_from}
use Rattle.reserving.proofs.Keys.{first_true}
use Rattle.ledger.specs.Pricing.{validity_of}
use Rattle.charging.specs.Accepted.{Accepted}
use Rattle.charging.specs.Served.{history}
use Rattle.charging.specs.Paid.{is_touched}
use Rattle.reserving.proofs.Counted.{rest_none, is_named}
use Rattle.charging.proofs.steps.Steps.{is_quiet, IsQuiet, quiet, is_touch, untouched, granted}
use Rattle.charging.proofs.steps.Steps.{Keeps}
use Rattle.charging.proofs.steps.KeptHistories.{kept_history}
use Rattle.charging.proofs.charges.Paying.{TouchesAreRecorded, touches-touched}

pub record AreRecorded (ledger : Ledger) : Type 0 where
  pub groups : (s : List ℕ) (g : ℕ) → last_recording s ledger ≡ None → has_group s g ledger ≡ true →
      ⊥
  pub touches : TouchesAreRecorded ledger

abbrev front : ℕ → Fact → Ledger → Ledger
front t f ledger = record { at = t; fact = f } ∷ ledger

no_record : (b : Bool) (r : Recording) (o : Option Recording) →
    or_else (if b then Some r else None) o ≡ None → o ≡ None
no_record true r o e = absurd (no_some r (sym e))
no_record false r o e = e

-- ---- facts that neither name a group, nor touch

record IsPlain (f : Fact) : Type 0 where
  names : (s : List ℕ) (g : ℕ) → names_group s g f ≡ false
  touch : (s : List ℕ) (t : ℕ) → touch_in s (record { at = t; fact = f }) ≡ None
  record_before : (s : List ℕ) (t : ℕ) (ledger : Ledger) →
      last_recording s (front t f ledger) ≡ None → last_recording s ledger ≡ None

plain : (t : ℕ) (f : Fact) (ledger : Ledger) → IsPlain f → AreRecorded ledger →
    AreRecorded (front t f ledger)
plain t f ledger p h = record {
  groups = λ s g e k. h.groups s g (p.record_before s t ledger e)
      (sym (ap (λ x. x || has_group s g ledger) (p.names s g)) ∙ k);
  touches = λ s e. ap (λ o. or_else o (last_touch s ledger)) (p.touch s t)
      ∙ h.touches s (p.record_before s t ledger e);
}

charge_plain : (n m : ℕ) → IsPlain (Charge n m)
charge_plain n m = record {
  names = λ s g. refl;
  touch = λ s t. refl;
  record_before = λ s t ledger e. e;
}

hold_plain : (h : HoldOf) → IsPlain (Hold h)
hold_plain h = record {
  names = λ s g. refl;
  touch = λ s t. refl;
  record_before = λ s t ledger e. e;
}

end_plain : (s : List ℕ) (g : ℕ) → IsPlain (End s g)
end_plain s g = record { names = λ x y. refl; touch = λ x u. refl; record_before = λ x u l e. e }

charges : (t : ℕ) (hs : List HeldAmount) (ledger : Ledger) → AreRecorded ledger →
    AreRecorded (charge_facts t hs ++ ledger)
charges t [] ledger h = h
charges t (x ∷ xs) ledger h =
    plain t (Charge x.bucket x.amount) (charge_facts t xs ++ ledger)
    (charge_plain x.bucket x.amount) (charges t xs ledger h)

holds : (t : ℕ) (s : List ℕ) (g : ℕ) (hs : List HeldAmount) (ledger : Ledger) → AreRecorded ledger →
    AreRecorded (hold_facts t s g hs ++ ledger)
holds t s g [] ledger h = h
holds t s g (x ∷ xs) ledger h =
    plain t (Hold (hold_for s g x)) (hold_facts t s g xs ++ ledger)
    (hold_plain (hold_for s g x)) (holds t s g xs ledger h)

pub charges_record : (s : List ℕ) (t : ℕ) (hs : List HeldAmount) (ledger : Ledger) →
    last_recording s (charge_facts t hs ++ ledger) ≡ last_recording s ledger
charges_record s t [] ledger = refl
charges_record s t (x ∷ xs) ledger = charges_record s t xs ledger

quiet_kept : (t : ℕ) (f : Fact) (ledger : Ledger) → is_quiet f ≡ true → is_touch f ≡ false →
    AreRecorded ledger → AreRecorded (front t f ledger)
quiet_kept t f ledger q n h =
    let none : IsQuiet (counts f) = quiet f q in
    plain t f ledger (record {
      names = λ x g i. is_named x g (none.usage i) (none.grant i);
      touch = λ x u i. touched_at x u (untouched f n i);
      record_before = λ x u l e.
          rest_none (recorded_at x u (counts f).request) (last_recording x l) e;
    }) h

-- ---- a fact of a recorded session's group

named : (t : ℕ) (s : List ℕ) (f : Fact) (ledger : Ledger) →
    ((x : List ℕ) (g : ℕ) → names_group x g f ≡ true → s ≡ x) →
    ((x : List ℕ) → touch_in x (record { at = t; fact = f }) ≡ None) →
    ((x : List ℕ) → last_recording x (front t f ledger) ≡ last_recording x ledger) →
    (last_recording s ledger ≡ None → ⊥) → AreRecorded ledger → AreRecorded (front t f ledger)
named t s f ledger own none same has h = record {
  groups = λ x g e k. at x g (names_group x g f) refl (sym (same x) ∙ e) k;
  touches = λ x e. ap (λ o. or_else o (last_touch x ledger)) (none x)
      ∙ h.touches x (sym (same x) ∙ e);
}
  where
    at : (x : List ℕ) (g : ℕ) (n : Bool) → names_group x g f ≡ n → last_recording x ledger ≡ None →
        (n || has_group x g ledger) ≡ true → ⊥
    at x g true p e k = has (ap (λ y. last_recording y ledger) (own x g p) ∙ e)
    at x g false p e k = h.groups x g e k

touched_kept : (t : ℕ) (s : List ℕ) (n : ℕ) (ledger : Ledger) → AreRecorded ledger →
    AreRecorded (touched t s n ledger)
touched_kept t s n ledger h = record {
  groups = λ x g e k. h.groups x g
      (no_record (is_same s x) (record { number = n; at = t }) (last_recording x ledger) e) k;
  touches = touches-touched t s n ledger h.touches;
}

-- a session that was touched is recorded
touched_recorded : (s : List ℕ) (ledger : Ledger) → is_touched s ledger ≡ true →
    AreRecorded ledger → last_recording s ledger ≡ None → ⊥
touched_recorded s ledger touches h e = true≢false (sym touches ∙ ap is_some (h.touches s e))

settled_kept : (b : Shelf) (t : ℕ) (s : List ℕ) (g : ℕ) (used_parts : List UsedPart)
    (ledger : Ledger) → is_touched s ledger ≡ true → AreRecorded ledger →
    AreRecorded (settled_by b t s g used_parts ledger)
settled_kept b t s g [] ledger touches h = plain t (End s g) ledger (end_plain s g) h
settled_kept b t s g (p ∷ ps) ledger touches h =
    let hs : List HeldAmount = parts
    (paid (holds_at (validity_of b) t s g ledger) g t
    (due_of (report_price b t s g (p ∷ ps) ledger)) (buckets_at (validity_of b) t ledger))
    (buckets_at (validity_of b) t ledger) in
    plain t (End s g) _ (end_plain s g)
    (named t s (Use (use_of s g _ _ (due_of (report_price b t s g (p ∷ ps) ledger)) _)) _
    (λ x y e. same_from s x (first_true (is_same s x) (g == y) e))
    (λ x. refl) (λ x. refl)
    (λ e. touched_recorded s ledger touches h (sym (charges_record s t hs ledger) ∙ e))
    (charges t hs ledger h))

granted_kept : (b : Shelf) (t : ℕ) (s : List ℕ) (g : ℕ) (asked : Option ℕ) (ledger : Ledger) →
    (last_recording s ledger ≡ None → ⊥) → AreRecorded ledger →
    AreRecorded (granted b t s g asked ledger)
granted_kept b t s g asked ledger has h =
    holds t s g _ _ (named t s (Grant (grant_at b t s g _ ledger)) ledger
    (λ x y e. same_from s x (first_true (is_same s x) (g == y) e)) (λ x. refl) (λ x. refl) has h)

-- ---- an event

-- the ledger with a debit's charges
abbrev with_charges : Shelf → ℕ → ℕ → ℕ → Ledger → Ledger
with_charges b t g units ledger =
    charge_facts t
    (parts (paid [] g t (due_of (rest_price b t g units ledger))
    (buckets_at (validity_of b) t ledger))
    (buckets_at (validity_of b) t ledger)) ++ ledger

event_kept : (b : Shelf) (t : ℕ) (s : List ℕ) (g units n : ℕ) (ledger : Ledger) →
    AreRecorded ledger → AreRecorded (recorded t s n (debited b t s g units ledger))
event_kept b t s g units n ledger h =
    let k : AreRecorded (with_charges b t g units ledger) =
    charges t
    (parts (paid [] g t (due_of (rest_price b t g units ledger))
    (buckets_at (validity_of b) t ledger)) (buckets_at (validity_of b) t ledger)) ledger h in
    record {
      groups = λ x y e q. at x y k (is_same s x) refl e q;
      touches = λ x e. k.touches x
          (no_record (is_same s x) (record { number = n; at = t })
          (last_recording x (with_charges b t g units ledger)) e);
    }
  where
    at : (x : List ℕ) (y : ℕ) → AreRecorded (with_charges b t g units ledger) → (c : Bool) →
        is_same s x ≡ c → or_else (if c then Some (record { number = n; at = t }) else None)
        (last_recording x (with_charges b t g units ledger)) ≡ None →
        ((c && g == y) || has_group x y (with_charges b t g units ledger)) ≡ true → ⊥
    at x y k true p e q = no_some (let r : Recording = record { number = n; at = t } in r) (sym e)
    at x y k false p e q = k.groups x y e q

-- ---- a history

keeps_recorded : (b : Shelf) → Keeps b (λ reports ledger. AreRecorded ledger)
keeps_recorded b = record {
  quiet = λ t f reports ledger q n fits h. quiet_kept t f ledger q n h;
  touch = λ t s n reports ledger h. touched_kept t s n ledger h;
  credit = λ t kind from until scope amount reports ledger h.
      plain t _ ledger
      (record { names = λ x y. refl; touch = λ x u. refl; record_before = λ x u l e. e }) h;
  settle = λ t s g used_parts reports ledger touches h.
      settled_kept b t s g used_parts ledger touches h;
  grant = λ t s g asked reports ledger has some h. granted_kept b t s g asked ledger has h;
  event = λ t s g units n reports ledger new covered h. event_kept b t s g units n ledger h;
}

none_recorded : AreRecorded []
none_recorded = record { groups = λ s g e k. true≢false (sym k); touches = λ s e. refl }

pub recorded_history : (b : Shelf) (a : List ℕ) (list : List Accepted) →
    AreRecorded (history b a list).ledger
recorded_history b a list =
    kept_history b (λ reports ledger. AreRecorded ledger) (keeps_recorded b) none_recorded a list

-- a session without a record has no group
-- rule: session-names.known
pub new_has_no_groups : (b : Shelf) (a : List ℕ) (list : List Accepted) (s : List ℕ) →
    last_recording s (history b a list).ledger ≡ None → (g : ℕ) →
    has_group s g (history b a list).ledger ≡ false
new_has_no_groups b a list s e g = at (has_group s g (history b a list).ledger) refl
  where
    at : (v : Bool) → has_group s g (history b a list).ledger ≡ v → v ≡ false
    at true k = absurd ((recorded_history b a list).groups s g e k)
    at false k = refl
