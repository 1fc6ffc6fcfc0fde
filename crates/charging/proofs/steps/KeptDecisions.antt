-- What each step of a ledger keeps, each decision keeps.
use Rattle.std.proofs.Common.{◌≡◌, ℕ, Bool, true, false, List, [], ◌∷◌, ◌++◌, refl, sym, ap, subst}
use Rattle.std.proofs.Common.{◌∙◌, Option, Some, None}
use Rattle.std.specs.Prelude.{if◌then◌else◌, not, is_some, nat_lt, option_map}
use Rattle.std.proofs.lemmas.Bool.{and_parts}
use Rattle.commands.specs.declared.answer.Failure.{Failure}
use Rattle.commands.specs.declared.answer.Failure.TheVariants.{UnknownSessionId}
use Rattle.commands.specs.declared.avp.Avp.TheVariants.{SessionId}
use Rattle.commands.specs.declared.request.Ask.{Ask}
use Rattle.commands.specs.declared.request.Ask.TheVariants.{Initial, Update, Termination}
use Rattle.commands.specs.declared.request.Ask.TheVariants.{Event as Debit, Refund}
use Rattle.commands.specs.declared.request.Event.{Event}
use Rattle.commands.specs.declared.request.EventAction.{EventAction}
use Rattle.commands.specs.declared.request.EventAction.TheVariants.{DirectDebiting, CheckBalance}
use Rattle.commands.specs.declared.request.EventAction.TheVariants.{PriceEnquiry}
use Rattle.commands.specs.declared.service.Service.{Service}
use Rattle.commands.specs.declared.service.Requested.{Requested}
use Rattle.commands.specs.Refunds.{Refunded}
use Rattle.shelves.specs.Shelves.{Shelf, book_at}
use Rattle.tariffs.specs.Tariffs.{GroupTariff}
use Rattle.rating.specs.declared.grant.Grant.{Grant as RatedGrant}
use Rattle.units.specs.declared.blocks.UsedPart.{UsedPart}
use Rattle.buckets.specs.declared.kind.BucketKind.TheVariants.{Money}
use Rattle.buckets.specs.declared.kind.Due.{Due}
use Rattle.ledger.specs.Settlement.{due_of, charge_facts, report_price, settled_by}
use Rattle.buckets.specs.declared.holds.HeldAmount.{HeldAmount}
use Rattle.buckets.specs.Share.{parts}
use Rattle.buckets.specs.Holding.{holds_of, paid}
use Rattle.ledger.specs.Ledger.{Ledger, Recording, or_else, is_barred, is_live}
use Rattle.ledger.specs.Parts.{is_within}
use Rattle.ledger.specs.Ledger.{is_closed, last_touch, last_recording, used}
use Rattle.ledger.specs.Parts.{recording_in}
use Rattle.ledger.specs.Ledger.{next_bucket}
use Rattle.ledger.specs.Ledger.Fact.{Close, Recorded}
use Rattle.ledger.specs.Balance.{buckets_at, holds_at}
use Rattle.ledger.specs.Pricing.{tariff_at, validity_of}
use Rattle.ledger.specs.Requests.{recorded, touched, credited}
use Rattle.ledger.specs.Reservation.{hold_facts, reserved, grant_for, held_due}
use Rattle.ledger.specs.Debiting.{is_covered, debit_passes}
use Rattle.reserving.proofs.Lists.{no_some}
use Rattle.ledger.proofs.Names.{is_same-refl}
use Rattle.ledger.proofs.Fronts.{newest-front, each_hold}
use Rattle.decisions.specs.Services.{is_known, units_fault, units_of, parts_of, settled_service}
use Rattle.decisions.specs.Services.{settled_services, Answered, granted, after_grants, any_grants}
use Rattle.decisions.specs.Decisions.{Decision, refused_or, event_units, debit_decision}
use Rattle.decisions.specs.Decisions.{read_refusal, refund_decision, session_refusal}
use Rattle.decisions.specs.Decisions.{settled_touched}
use Rattle.decisions.specs.Parts.{invalid, granted_units, granted_if, granted_by, event_fault}
use Rattle.decisions.specs.Parts.{debit_refusal, charged_at_once, charged_by, charged_unless_barred}
use Rattle.decisions.specs.Parts.{decided_action, refund_refusal, refunded, initial_refusal, opened}
use Rattle.decisions.specs.Parts.{opened_unless_barred, updated, ended, decided}
use Rattle.charging.specs.Paid.{Report, with_services, is_touched}
use Rattle.charging.specs.PaidParts.{with_ask}
use Rattle.charging.proofs.steps.Steps.{with_grant, Keeps}

-- a grant leaves its session recorded
recorded_granted : (b : Shelf) (t : ℕ) (s : List ℕ) (g units : ℕ) (due : Due)
    (ledger : Ledger) → last_recording s (reserved b t s g units due ledger) ≡
    last_recording s ledger
recorded_granted b t s g units due ledger =
    newest-front (recording_in s)
    (hold_facts t s g (holds_of g t due (buckets_at (validity_of b) t ledger)))
    (with_grant b t s g units ledger)
    (each_hold (λ d. recording_in s d ≡ None) t s g
    (holds_of g t due (buckets_at (validity_of b) t ledger)) (λ x. refl))

-- ---- a session's requests are of one that was touched

touched-charges : (s : List ℕ) (t : ℕ) (hs : List HeldAmount) (ledger : Ledger) →
    last_touch s (charge_facts t hs ++ ledger) ≡ last_touch s ledger
touched-charges s t [] ledger = refl
touched-charges s t (h ∷ hs) ledger = touched-charges s t hs ledger

-- a settlement touches nothing
touched-settled : (b : Shelf) (t : ℕ) (s : List ℕ) (session : List ℕ) (g : ℕ)
    (used_parts : List UsedPart) (ledger : Ledger) →
    last_touch s (settled_by b t session g used_parts ledger) ≡ last_touch s ledger
touched-settled b t s session g [] ledger = refl
touched-settled b t s session g (p ∷ ps) ledger =
    let rows = buckets_at (validity_of b) t ledger in
    touched-charges s t (parts
    (paid (holds_at (validity_of b) t session g ledger) g t
    (due_of (report_price b t session g (p ∷ ps) ledger)) rows) rows) ledger

either-touched : (s : List ℕ) (c : Bool) (x y : Ledger) → is_touched s x ≡ true →
    is_touched s y ≡ true → is_touched s (if c then x else y) ≡ true
either-touched s true x y p q = p
either-touched s false x y p q = q

within-some : (v : ℕ → ℕ) (t : ℕ) (o : Option ℕ) → is_within v t o ≡ true → is_some o ≡ true
within-some v t None e = e
within-some v t (Some at) e = refl

touched-live : (v : ℕ → ℕ) (t : ℕ) (s : List ℕ) (ledger : Ledger) → is_live v t ledger s ≡ true →
    is_touched s ledger ≡ true
touched-live v t s ledger e =
    within-some v t (last_touch s ledger)
    (and_parts (is_within v t (last_touch s ledger)) (not (is_closed s ledger)) e).0

-- a request that isn't refused for its session is of a live one
allowed-live : (live : Bool) (other limit : Option Failure) →
    or_else (if not live then Some UnknownSessionId else other) limit ≡ None → live ≡ true
allowed-live true other limit e = refl
allowed-live false other limit e = absurd (no_some UnknownSessionId (sym e))

module _ (b : Shelf) (P : List Report → Ledger → Type 0) (k : Keeps b P)
    (reports : List Report) where
  abbrev IsKept : Ledger → Type 0
  IsKept ledger = P reports ledger

  -- ---- by a test

  either : (c : Bool) (x y : Ledger) → IsKept x → IsKept y → IsKept (if c then x else y)
  either true x y p q = p
  either false x y p q = q

  either_decision : (c : Bool) (x y : Decision) → (c ≡ true → IsKept x.after) →
      (c ≡ false → IsKept y.after) → IsKept (if c then x else y).after
  either_decision true x y p q = p refl
  either_decision false x y p q = q refl

  unless_refused : (o : Option Failure) (ledger : Ledger) (d : Decision) → IsKept ledger →
      (o ≡ None → IsKept d.after) → IsKept (refused_or o ledger d).after
  unless_refused None ledger d p q = q refl
  unless_refused (Some failure) ledger d p q = p

  -- ---- a session's requests

  kept_recorded : (t : ℕ) (s : List ℕ) (n : ℕ) (ledger : Ledger) →
      last_recording s ledger ≡ None → IsKept ledger → IsKept (recorded t s n ledger)
  kept_recorded t s n ledger new h =
      k.quiet t (Recorded s n) reports ledger refl refl (record { close = tt; request = new }) h

  -- a first request that isn't refused has a new name
  new_name : (s : List ℕ) (o : Option Recording) (other : Option Failure) →
      (if is_some o then Some (invalid SessionId) else other) ≡ None → o ≡ None
  new_name s None other e = refl
  new_name s (Some r) other e = absurd (no_some (invalid SessionId) (sym e))

  kept_touched : (t : ℕ) (s : List ℕ) (n : ℕ) (ledger : Ledger) → IsKept ledger →
      IsKept (touched t s n ledger)
  kept_touched t s n ledger h = k.touch t s n reports ledger h

  -- a ledger on which the session is recorded
  abbrev IsOpen : List ℕ → Ledger → Type 0
  IsOpen s ledger = (last_recording s ledger ≡ None → ⊥) × IsKept ledger

  either_answered : (s : List ℕ) (c : Bool) (x y : Answered) → IsOpen s x.after → IsOpen s y.after →
      IsOpen s (if c then x else y).after
  either_answered s true x y p q = p
  either_answered s false x y p q = q

  either_by : (s : List ℕ) (c : Bool) (x y : Answered) → (c ≡ true → IsOpen s x.after) →
      IsOpen s y.after → IsOpen s (if c then x else y).after
  either_by s true x y p q = p refl
  either_by s false x y p q = q

  open_units : (tariff : GroupTariff) (t : ℕ) (s : List ℕ) (g : ℕ) (asked : Option ℕ)
      (ledger : Ledger) → IsOpen s ledger →
      IsOpen s (granted_units b tariff t s g asked ledger).after
  open_units tariff t s g asked ledger h =
      let grant : RatedGrant = grant_for b t g (used s g ledger) asked ledger in
      either_by s (nat_lt 0 grant.units.0) _ _ (λ some. (
        λ e. h.0 (sym (recorded_granted b t s g grant.units.0 (held_due grant) ledger) ∙ e),
        k.grant t s g asked reports ledger h.0 some h.1,
      )) h

  open_if : (tariff : GroupTariff) (t : ℕ) (s : List ℕ) (g : ℕ) (o : Option Requested)
      (ledger : Ledger) → IsOpen s ledger → IsOpen s (granted_if b tariff t s g o ledger).after
  open_if tariff t s g None ledger h = h
  open_if tariff t s g (Some requested) ledger h =
      either_answered s (is_barred ledger) _ _ h
      (open_units tariff t s g (units_of requested) ledger h)

  open_by : (o : Option GroupTariff) (t : ℕ) (s : List ℕ) (x : Service) (ledger : Ledger) →
      IsOpen s ledger → IsOpen s (granted_by o b t s x ledger).after
  open_by None t s x ledger h = h
  open_by (Some tariff) t s x ledger h = open_if tariff t s x.group x.requested ledger h

  kept_grants : (t : ℕ) (s : List ℕ) (services : List Service) (ledger : Ledger) → IsOpen s ledger →
      IsKept (after_grants b t s services ledger)
  kept_grants t s [] ledger h = h.1
  kept_grants t s (x ∷ xs) ledger h =
      kept_grants t s xs (granted b t s x ledger).after
      (open_by (tariff_at b t x.group) t s x ledger h)

  open_touched : (t : ℕ) (s : List ℕ) (n : ℕ) (ledger : Ledger) → IsKept ledger →
      IsOpen s (touched t s n ledger)
  open_touched t s n ledger h = (
    λ e. no_some last (sym e
        ∙ (λ i. or_else (if is_same-refl s i then Some last else None)
        (last_recording s ledger))),
    kept_touched t s n ledger h,
  )
    where
      last : Recording
      last = record { number = n; at = t }

  kept_initial : (t : ℕ) (s : List ℕ) (n : ℕ) (services : List Service) (ledger : Ledger) →
      IsKept ledger → IsKept (decided b t s n (Initial services) ledger).after
  kept_initial t s n services ledger h =
      unless_refused (initial_refusal (book_at b t) s services ledger) ledger
      (opened_unless_barred b t s n services ledger) h
      (λ free.
      let new : last_recording s ledger ≡ None =
      new_name s (last_recording s ledger)
      (option_map invalid (units_fault (book_at b t) s ledger services))
      free in
      either_decision (is_barred ledger) _ (opened b t s n services ledger)
      (λ e. kept_recorded t s n ledger new h)
      (λ e. either_decision (any_grants b t ledger services) _ _
      (λ e. kept_grants t s services (touched t s n ledger) (open_touched t s n ledger h))
      (λ e. kept_recorded t s n ledger new h)))

  -- ---- events

  kept_charged : (o : Option GroupTariff) (t : ℕ) (s : List ℕ) (n : ℕ) (e : Event)
      (ledger : Ledger) → last_recording s ledger ≡ None → IsKept ledger →
      IsKept (charged_by o b t s n e ledger).after
  kept_charged None t s n e ledger new h = kept_recorded t s n ledger new h
  kept_charged (Some tariff) t s n e ledger new h =
      let units : ℕ = event_units tariff e.requested in
      either_decision (is_covered b t e.group units ledger)
      (charged_at_once b tariff t s n e.group units ledger) _
      (λ covered. either_decision (debit_passes b t s e.group units ledger) _ _ (λ p. h)
      (λ p. k.event t s e.group units n reports ledger new covered h))
      (λ p. kept_recorded t s n ledger new h)

  kept_debit : (t : ℕ) (s : List ℕ) (n : ℕ) (e : Event) (ledger : Ledger) → IsKept ledger →
      IsKept (debit_decision b t s n e ledger).after
  kept_debit t s n e ledger h =
      unless_refused (debit_refusal (book_at b t) s e ledger) ledger
      (charged_unless_barred b t s n e ledger) h
      (λ free.
      let new : last_recording s ledger ≡ None =
      new_name s (last_recording s ledger) (option_map invalid (event_fault (book_at b t) e))
      free in
      either_decision (is_barred ledger) _
      (charged_by (tariff_at b t e.group) b t s n e ledger) (λ p. kept_recorded t s n ledger new h)
      (λ p. kept_charged (tariff_at b t e.group) t s n e ledger new h))

  kept_event : (action : EventAction) (t : ℕ) (s : List ℕ) (n : ℕ) (e : Event) (ledger : Ledger) →
      IsKept ledger → IsKept (decided_action action b t s n e ledger).after
  kept_event DirectDebiting t s n e ledger h = kept_debit t s n e ledger h
  kept_event CheckBalance t s n e ledger h = unless_refused (read_refusal (book_at b t) e)
      ledger _ h (λ p. h)
  kept_event PriceEnquiry t s n e ledger h = unless_refused (read_refusal (book_at b t) e)
      ledger _ h (λ p. h)

  kept_refund : (t : ℕ) (s : List ℕ) (n : ℕ) (r : Refunded) (ledger : Ledger) → IsKept ledger →
      IsKept (refund_decision b t s n r ledger).after
  kept_refund t s n r ledger h =
      unless_refused (refund_refusal (book_at b t) s r ledger) ledger (refunded t s n r ledger) h
      (λ free. either_decision (nat_lt 4294967295 (next_bucket ledger)) _ _ (λ p. h)
      (λ p. kept_recorded t s n (credited t Money t 4102444800 None r.micros ledger)
      (new_name s (last_recording s ledger) _ free)
      (k.credit t Money t 4102444800 None r.micros reports ledger h)))

-- ---- updates and terminations

-- a decision that reports nothing
unreported : (P : List Report → Ledger → Type 0) (accepted : Bool) (reports : List Report)
    (ledger : Ledger) → P reports ledger → P (if accepted then reports else reports) ledger
unreported P true reports ledger h = h
unreported P false reports ledger h = h

module _ (b : Shelf) (P : List Report → Ledger → Type 0) (k : Keeps b P) where
  either_settled : (c : Bool) (more reports : List Report) (x y : Ledger) → P more x → P reports y →
      P (if c then more else reports) (if c then x else y)
  either_settled true more reports x y p q = p
  either_settled false more reports x y p q = q

  kept_services : (t : ℕ) (s : List ℕ) (services : List Service) (reports : List Report)
      (ledger : Ledger) → is_touched s ledger ≡ true → P reports ledger →
      P (with_services b t s services reports) (settled_services b t s services ledger)
  kept_services t s [] reports ledger touches h = h
  kept_services t s (x ∷ xs) reports ledger touches h =
      kept_services t s xs _ (settled_service b t s x ledger)
      (either-touched s (is_known (book_at b t) x.group)
      (settled_by b t s x.group (parts_of x.used) ledger)
      ledger (ap is_some (touched-settled b t s s x.group (parts_of x.used) ledger) ∙ touches)
      touches)
      (either_settled (is_known (book_at b t) x.group) _ reports
      (settled_by b t s x.group (parts_of x.used) ledger) ledger
      (k.settle t s x.group (parts_of x.used) reports ledger touches h) h)

  -- a request of a session, which is refused or reports its services
  kept_session : (t : ℕ) (s : List ℕ) (n : ℕ) (services : List Service) (reports : List Report)
      (ledger : Ledger) (d : Decision) → d.accepted ≡ true → P reports ledger →
      ((is_touched s ledger ≡ true) → P (with_services b t s services reports) d.after) →
      P (if (refused_or (session_refusal b t s n services ledger) ledger d).accepted
      then with_services b t s services reports else reports)
      (refused_or (session_refusal b t s n services ledger) ledger d).after
  kept_session t s n services reports ledger d done h f =
      at (session_refusal b t s n services ledger)
      (λ e. touched-live (validity_of b) t s ledger
      (allowed-live (is_live (validity_of b) t ledger s) _ _ e))
    where
      more : List Report
      more = with_services b t s services reports

      at : (o : Option Failure) → (o ≡ None → is_touched s ledger ≡ true) →
          P (if (refused_or o ledger d).accepted then more else reports)
          (refused_or o ledger d).after
      at None touches = subst (λ v. P (if v then more else reports) d.after) (sym done)
          (f (touches refl))
      at (Some failure) touches = h

  kept_update : (t : ℕ) (s : List ℕ) (n : ℕ) (services : List Service) (reports : List Report)
      (ledger : Ledger) → P reports ledger →
      P (if (decided b t s n (Update services) ledger).accepted
      then with_services b t s services reports else reports)
      (decided b t s n (Update services) ledger).after
  kept_update t s n services reports ledger h =
      kept_session t s n services reports ledger (updated b t s n services ledger) refl h
      (λ touches.
      let more : List Report = with_services b t s services reports in
      kept_grants b P k more t s services (settled_touched b t s n services ledger)
      (open_touched b P k more t s n (settled_services b t s services ledger)
      (kept_services t s services reports ledger touches h)))

  kept_termination : (t : ℕ) (s : List ℕ) (n : ℕ) (services : List Service) (reports : List Report)
      (ledger : Ledger) → P reports ledger →
      P (if (decided b t s n (Termination services) ledger).accepted
      then with_services b t s services reports else reports)
      (decided b t s n (Termination services) ledger).after
  kept_termination t s n services reports ledger h =
      kept_session t s n services reports ledger (ended b t s n services ledger) refl h (λ touches.
      let more : List Report = with_services b t s services reports in
      let live : IsOpen b P k more s (settled_touched b t s n services ledger) =
      open_touched b P k more t s n (settled_services b t s services ledger)
      (kept_services t s services reports ledger touches h) in
      k.quiet t (Close s) more (settled_touched b t s n services ledger) refl refl
      (record { close = live.0; request = tt }) live.1)

  -- ---- a request

  pub kept_decided : (t : ℕ) (s : List ℕ) (n : ℕ) (ask : Ask) (reports : List Report)
      (ledger : Ledger) → P reports ledger →
      P (if (decided b t s n ask ledger).accepted then with_ask b t s ask reports else reports)
      (decided b t s n ask ledger).after
  kept_decided t s n (Initial services) reports ledger h =
      unreported P _ reports _ (kept_initial b P k reports t s n services ledger h)
  kept_decided t s n (Update services) reports ledger h =
      kept_update t s n services reports ledger h
  kept_decided t s n (Termination services) reports ledger h =
      kept_termination t s n services reports ledger h
  kept_decided t s n (Debit e) reports ledger h =
      unreported P _ reports _ (kept_event b P k reports e.action t s n e ledger h)
  kept_decided t s n (Refund r) reports ledger h =
      unreported P _ reports _ (kept_refund b P k reports t s n r ledger h)
