-- What facts in front of a ledger leave of its sums and of its sessions.
use Rattle.std.proofs.Common.{◌≡◌, ℕ, ◌+◌, Bool, true, false, List, [], ◌∷◌, ◌++◌, refl, sym, ap}
use Rattle.std.proofs.Common.{◌∙◌, arith, Option, Some, None}
use Rattle.std.specs.Prelude.{if◌then◌else◌, ◌==◌, ◌&&◌, ◌||◌, not, option_map, unwrap_or}
use Rattle.buckets.specs.declared.holds.HeldAmount.{HeldAmount}
use Rattle.buckets.proofs.Parts.{sum_at}
use Rattle.ledger.specs.Ledger.{Fact, Dated, Ledger, is_barred, total, newest}
use Rattle.ledger.specs.Parts.{bar_in, any}
use Rattle.ledger.specs.Ledger.{or_else, held, charged, last_touch, last_recording}
use Rattle.ledger.specs.Parts.{any_dated}
use Rattle.ledger.specs.Ledger.{is_closed, is_live}
use Rattle.ledger.specs.Parts.{is_within}
use Rattle.ledger.specs.Ledger.Fact.{Hold, Charge}
use Rattle.ledger.specs.Balance.{credits}
use Rattle.ledger.specs.Settlement.{charge_facts}
use Rattle.ledger.specs.Reservation.{hold_for, hold_facts}
use Rattle.ledger.specs.Lists.{EachIn}

-- ---- facts in front that don't count

pub total-front : (f : Dated → ℕ) (front ledger : Ledger) → EachIn (λ d. f d ≡ 0) front →
    total f (front ++ ledger) ≡ total f ledger
total-front f [] ledger h = refl
total-front f (d ∷ ds) ledger h = (λ i. h.0 i + total-front f ds ledger h.1 i) ∙ omega arith

pub newest-front : {A : Type 0} (f : Dated → Option A) (front ledger : Ledger) →
    EachIn (λ d. f d ≡ None) front → newest f (front ++ ledger) ≡ newest f ledger
newest-front f [] ledger h = refl
newest-front f (d ∷ ds) ledger h =
    ap (λ o. or_else o (newest f (ds ++ ledger))) h.0 ∙ newest-front f ds ledger h.1

pub is_barred-front : (front ledger : Ledger) → EachIn (λ d. bar_in d ≡ None) front →
    is_barred (front ++ ledger) ≡ is_barred ledger
is_barred-front front ledger h = ap (λ o. unwrap_or o false) (newest-front bar_in front ledger h)

pub any-front : (p : Fact → Bool) (front ledger : Ledger) → EachIn (λ d. p d.fact ≡ false) front →
    any p (front ++ ledger) ≡ any p ledger
any-front p [] ledger h = refl
any-front p (d ∷ ds) ledger h = ap (λ t. t || any p (ds ++ ledger)) h.0 ∙ any-front p ds ledger h.1

pub any_dated-front : (p : Dated → Bool) (front ledger : Ledger) → EachIn (λ d. p d ≡ false) front →
    any_dated p (front ++ ledger) ≡ any_dated p ledger
any_dated-front p [] ledger h = refl
any_dated-front p (d ∷ ds) ledger h =
    ap (λ t. t || any_dated p (ds ++ ledger)) h.0 ∙ any_dated-front p ds ledger h.1

pub each_charge : (P : Dated → Type 0) (t : ℕ) (hs : List HeldAmount) →
    ((b n : ℕ) → P (record { at = t; fact = Charge b n })) → EachIn P (charge_facts t hs)
each_charge P t [] h = tt
each_charge P t (x ∷ xs) h = (h x.bucket x.amount, each_charge P t xs h)

pub each_hold : (P : Dated → Type 0) (t : ℕ) (s : List ℕ) (g : ℕ) (hs : List HeldAmount) →
    ((h : HeldAmount) → P (record { at = t; fact = Hold (hold_for s g h) })) →
    EachIn P (hold_facts t s g hs)
each_hold P t s g [] h = tt
each_hold P t s g (x ∷ xs) h = (h x, each_hold P t s g xs h)

-- ---- charges and holds

pub held-charge_facts : (p : List ℕ → ℕ → Bool) (n t : ℕ) (hs : List HeldAmount) (ledger : Ledger) →
    held p n (charge_facts t hs ++ ledger) ≡ held p n ledger
held-charge_facts p n t [] ledger = refl
held-charge_facts p n t (h ∷ hs) ledger = omega (arith, held-charge_facts p n t hs ledger)

pub credits-charge_facts : (t : ℕ) (hs : List HeldAmount) (ledger : Ledger) →
    credits (charge_facts t hs ++ ledger) ≡ credits ledger
credits-charge_facts t [] ledger = refl
credits-charge_facts t (h ∷ hs) ledger = credits-charge_facts t hs ledger

pub charged-charge_facts : (n t : ℕ) (hs : List HeldAmount) (ledger : Ledger) →
    charged n (charge_facts t hs ++ ledger) ≡ sum_at n hs + charged n ledger
charged-charge_facts n t [] ledger = omega arith
charged-charge_facts n t (h ∷ hs) ledger = omega (arith, charged-charge_facts n t hs ledger)

pub held-hold_facts : (p : List ℕ → ℕ → Bool) (n t : ℕ) (session : List ℕ) (group : ℕ)
    (hs : List HeldAmount) (ledger : Ledger) → p session group ≡ true →
    held p n (hold_facts t session group hs ++ ledger) ≡ sum_at n hs + held p n ledger
held-hold_facts p n t session group [] ledger h = omega arith
held-hold_facts p n t session group (x ∷ xs) ledger h =
    let one : (if p session group && x.bucket == n then x.amount else 0)
    ≡ (if x.bucket == n then x.amount else 0) = rw h refl in
    omega (arith, held-hold_facts p n t session group xs ledger h)

pub held-hold_facts_other : (p : List ℕ → ℕ → Bool) (n t : ℕ) (session : List ℕ) (group : ℕ)
    (hs : List HeldAmount) (ledger : Ledger) → p session group ≡ false →
    held p n (hold_facts t session group hs ++ ledger) ≡ held p n ledger
held-hold_facts_other p n t session group [] ledger h = refl
held-hold_facts_other p n t session group (x ∷ xs) ledger h =
    let none : (if p session group && x.bucket == n then x.amount else 0) ≡ 0 = rw h refl in
    omega (arith, held-hold_facts_other p n t session group xs ledger h)

pub credits-hold_facts : (t : ℕ) (session : List ℕ) (group : ℕ) (hs : List HeldAmount)
    (ledger : Ledger) →
    credits (hold_facts t session group hs ++ ledger) ≡ credits ledger
credits-hold_facts t session group [] ledger = refl
credits-hold_facts t session group (h ∷ hs) ledger = credits-hold_facts t session group hs ledger

pub charged-hold_facts : (n t : ℕ) (session : List ℕ) (group : ℕ) (hs : List HeldAmount)
    (ledger : Ledger)
    → charged n (hold_facts t session group hs ++ ledger) ≡ charged n ledger
charged-hold_facts n t session group [] ledger = refl
charged-hold_facts n t session group (h ∷ hs) ledger =
    omega (arith, charged-hold_facts n t session group hs ledger)

-- ---- sessions

-- what is told of sessions stays
pub record SameSessions (before after : Ledger) : Type 0 where
  pub touch : (s : List ℕ) → last_touch s after ≡ last_touch s before
  pub closed : (s : List ℕ) → is_closed s after ≡ is_closed s before
  pub recording : (s : List ℕ) → last_recording s after ≡ last_recording s before

pub same_live : (v : ℕ → ℕ) (t : ℕ) (before after : Ledger) → SameSessions before after →
    (s : List ℕ) →
    is_live v t after s ≡ is_live v t before s
same_live v t before after k s = λ i. is_within v t (k.touch s i) && not (k.closed s i)

pub same_touched : (before after : Ledger) → SameSessions before after →
    ((s : List ℕ) (x : ℕ) → last_touch s before ≡ Some x →
    option_map (λ r. r.at) (last_recording s before) ≡ Some x) → (s : List ℕ) (x : ℕ) →
    last_touch s after ≡ Some x → option_map (λ r. r.at) (last_recording s after) ≡ Some x
same_touched before after k h s x e =
    ap (option_map (λ r. r.at)) (k.recording s) ∙ h s x (sym (k.touch s) ∙ e)
