-- The rows of a ledger stay within their rules over each decision of a request.
use Rattle.std.proofs.Common.{◌≡◌, ℕ, Bool, true, false, List, [], ◌∷◌, refl, sym}
use Rattle.std.proofs.Common.{Option, Some, None}
use Rattle.std.specs.Prelude.{if◌then◌else◌, ◌&&◌, not, is_some, nat_lt, option_map}
use Rattle.std.proofs.lemmas.Bool.{or_parts}
use Rattle.buckets.specs.declared.kind.BucketKind.TheVariants.{Money}
use Rattle.commands.specs.declared.answer.Failure.{Failure}
use Rattle.commands.specs.declared.answer.Failure.TheVariants.{UnknownSessionId, UnableToComply}
use Rattle.commands.specs.declared.avp.Avp.TheVariants.{SessionId}
use Rattle.commands.specs.declared.request.Ask.{Ask}
use Rattle.commands.specs.declared.request.Ask.TheVariants.{Initial, Update, Termination}
use Rattle.commands.specs.declared.request.Ask.TheVariants.{Event as Debit, Refund}
use Rattle.commands.specs.declared.request.Event.{Event}
use Rattle.commands.specs.declared.request.EventAction.{EventAction}
use Rattle.commands.specs.declared.request.EventAction.TheVariants.{DirectDebiting, CheckBalance}
use Rattle.commands.specs.declared.request.EventAction.TheVariants.{PriceEnquiry}
use Rattle.commands.specs.declared.service.Requested.{Requested}
use Rattle.commands.specs.declared.service.Service.{Service}
use Rattle.commands.specs.Refunds.{Refunded}
use Rattle.decisions.specs.Decisions.{Decision, debit_decision, event_units, read_refusal}
use Rattle.decisions.specs.Decisions.{refund_decision, refused_or, session_refusal, settled_touched}
use Rattle.decisions.specs.Parts.{charged_at_once, charged_by, charged_unless_barred, decided}
use Rattle.decisions.specs.Parts.{debit_refusal, decided_action, ended, event_fault, granted_by}
use Rattle.decisions.specs.Parts.{granted_if, granted_units, initial_refusal, invalid, opened}
use Rattle.decisions.specs.Parts.{opened_unless_barred, refund_refusal, refunded, updated}
use Rattle.decisions.specs.Services.{Answered, after_grants, any_grants, any_passes, granted}
use Rattle.decisions.specs.Services.{is_known, parts_of, settled_service, settled_services}
use Rattle.decisions.specs.Services.{units_fault, units_of}
use Rattle.ledger.specs.Debiting.{debit_passes, debited, is_covered}
use Rattle.ledger.specs.Ledger.{Ledger, Recording, is_barred, is_live, last_recording}
use Rattle.ledger.specs.Ledger.{next_bucket, or_else, used}
use Rattle.ledger.specs.Pricing.{tariff_at, validity_of}
use Rattle.ledger.specs.Requests.{credited, touched}
use Rattle.ledger.specs.Reservation.{grant_for, held_due}
use Rattle.ledger.specs.Settlement.{passes_limit, settled_by}
use Rattle.rating.specs.declared.grant.Grant.{Grant as RatedGrant}
use Rattle.reserving.proofs.Lists.{no_some}
use Rattle.shelves.specs.Shelves.{Shelf, IsShelf, book_at}
use Rattle.tariffs.specs.Tariffs.{GroupTariff}
use Rattle.ledger.specs.SoundLedger.{IsSoundLedger}
use Rattle.charging.proofs.lists.LiveSessions.{live_reserved, live_settled, live_touched}
use Rattle.charging.proofs.lists.LiveSessions.{live_unclosed, unrecorded_debited}
use Rattle.charging.proofs.lists.RowsKept.{AreRows, not_above, rows_closed, rows_credited}
use Rattle.charging.proofs.lists.RowsKept.{rows_debited, rows_opened, rows_recorded, rows_reserved}
use Rattle.charging.proofs.lists.RowsKept.{rows_settled, rows_touched}

-- ---- what isn't refused

-- a request that isn't refused for its session is of a live one, and passes no limit
allowed : (live passes : Bool) (other : Option Failure) →
    or_else (if not live then Some UnknownSessionId else other)
    (if passes then Some UnableToComply else None) ≡ None → (live ≡ true) × (passes ≡ false)
allowed false passes other e = absurd (no_some UnknownSessionId (sym e))
allowed true passes (Some failure) e = absurd (no_some failure (sym e))
allowed true true None e = absurd (no_some UnableToComply (sym e))
allowed true false None e = (refl, refl)

-- a first request that isn't refused has a new name
new_name : (o : Option Recording) (other : Option Failure) →
    (if is_some o then Some (invalid SessionId) else other) ≡ None → o ≡ None
new_name None other e = refl
new_name (Some r) other e = absurd (no_some (invalid SessionId) (sym e))

-- the rows of a ledger on which the session is live
record HasLive (b : Shelf) (t : ℕ) (s : List ℕ) (ledger : Ledger) : Type 0 where
  pub live : is_live (validity_of b) t ledger s ≡ true
  pub rows : AreRows b t ledger

-- ---- grants

either_granted : (b : Shelf) (t : ℕ) (s : List ℕ) (c : Bool) (x y : Answered) →
    HasLive b t s x.after → HasLive b t s y.after → HasLive b t s (if c then x else y).after
either_granted b t s true x y p q = p
either_granted b t s false x y p q = q

units_granted : (b : Shelf) (t : ℕ) (tariff : GroupTariff) (s : List ℕ) (g : ℕ) (asked : Option ℕ)
    (ledger : Ledger) → HasLive b t s ledger →
    HasLive b t s (granted_units b tariff t s g asked ledger).after
units_granted b t tariff s g asked ledger h =
    let grant : RatedGrant = grant_for b t g (used s g ledger) asked ledger in
    either_granted b t s (nat_lt 0 grant.units.0) _ _
    (record {
      live = live_reserved b t s g grant.units.0 (held_due grant) ledger h.live;
      rows = rows_reserved b t s g grant.units.0 (held_due grant) ledger h.live h.rows;
    })
    h

asked_granted : (b : Shelf) (t : ℕ) (tariff : GroupTariff) (s : List ℕ) (g : ℕ)
    (o : Option Requested) (ledger : Ledger) → HasLive b t s ledger →
    HasLive b t s (granted_if b tariff t s g o ledger).after
asked_granted b t tariff s g None ledger h = h
asked_granted b t tariff s g (Some requested) ledger h =
    either_granted b t s (is_barred ledger) _ _ h
    (units_granted b t tariff s g (units_of requested) ledger h)

by_tariff : (b : Shelf) (t : ℕ) (o : Option GroupTariff) (s : List ℕ) (x : Service)
    (ledger : Ledger) → HasLive b t s ledger → HasLive b t s (granted_by o b t s x ledger).after
by_tariff b t None s x ledger h = h
by_tariff b t (Some tariff) s x ledger h = asked_granted b t tariff s x.group x.requested ledger h

all_granted : (b : Shelf) (t : ℕ) (s : List ℕ) (services : List Service) (ledger : Ledger) →
    HasLive b t s ledger → AreRows b t (after_grants b t s services ledger)
all_granted b t s [] ledger h = h.rows
all_granted b t s (x ∷ xs) ledger h =
    all_granted b t s xs (granted b t s x ledger).after
    (by_tariff b t (tariff_at b t x.group) s x ledger h)

-- ---- settlements

one_settled : (b : Shelf) (t : ℕ) (s : List ℕ) (x : Service) (ledger : Ledger) (known : Bool) →
    (known && passes_limit b t s x.group (parts_of x.used) ledger) ≡ false →
    HasLive b t s ledger →
    HasLive b t s (if known then settled_by b t s x.group (parts_of x.used) ledger else ledger)
one_settled b t s x ledger true within h = record {
  live = live_settled b t s x.group (parts_of x.used) ledger h.live;
  rows = rows_settled b t s x.group (parts_of x.used) ledger h.live within h.rows;
}
one_settled b t s x ledger false within h = h

all_settled : (b : Shelf) (t : ℕ) (s : List ℕ) (services : List Service) (ledger : Ledger) →
    any_passes b t s services ledger ≡ false → HasLive b t s ledger →
    HasLive b t s (settled_services b t s services ledger)
all_settled b t s [] ledger within h = h
all_settled b t s (x ∷ xs) ledger within h =
    let both = or_parts
    (is_known (book_at b t) x.group && passes_limit b t s x.group (parts_of x.used) ledger)
    (any_passes b t s xs (settled_service b t s x ledger)) within in
    all_settled b t s xs (settled_service b t s x ledger) both.1
    (one_settled b t s x ledger (is_known (book_at b t) x.group) both.0 h)

-- ---- requests

module _ (b : Shelf) (shelf : IsShelf b) (t : ℕ) where
  either_decision : (c : Bool) (x y : Decision) → (c ≡ true → AreRows b t x.after) →
      (c ≡ false → AreRows b t y.after) → AreRows b t (if c then x else y).after
  either_decision true x y p q = p refl
  either_decision false x y p q = q refl

  unless_refused : (o : Option Failure) (ledger : Ledger) (d : Decision) → AreRows b t ledger →
      (o ≡ None → AreRows b t d.after) → AreRows b t (refused_or o ledger d).after
  unless_refused None ledger d p q = q refl
  unless_refused (Some failure) ledger d p q = p

  -- a session is touched
  still_live : (s : List ℕ) (n : ℕ) (ledger : Ledger) → HasLive b t s ledger →
      HasLive b t s (touched t s n ledger)
  still_live s n ledger h = record {
    live = live_touched b shelf t s n ledger (live_unclosed b t s ledger h.live);
    rows = rows_touched b t s n ledger h.live h.rows;
  }

  begun : (s : List ℕ) (n : ℕ) (ledger : Ledger) → last_recording s ledger ≡ None →
      IsSoundLedger ledger → AreRows b t ledger → HasLive b t s (touched t s n ledger)
  begun s n ledger new sound h = record {
    live = live_touched b shelf t s n ledger (sound.unknown s new).closed;
    rows = rows_opened b t s n ledger new h;
  }

  initial : (s : List ℕ) (n : ℕ) (services : List Service) (ledger : Ledger) →
      IsSoundLedger ledger → AreRows b t ledger →
      AreRows b t (decided b t s n (Initial services) ledger).after
  initial s n services ledger sound h =
      unless_refused (initial_refusal (book_at b t) s services ledger) ledger
      (opened_unless_barred b t s n services ledger) h
      (λ free.
      let new : last_recording s ledger ≡ None =
      new_name (last_recording s ledger)
      (option_map invalid (units_fault (book_at b t) s ledger services)) free in
      either_decision (is_barred ledger) _ (opened b t s n services ledger)
      (λ e. rows_recorded b t s n ledger new h)
      (λ e. either_decision (any_grants b t ledger services) _ _
      (λ e. all_granted b t s services (touched t s n ledger) (begun s n ledger new sound h))
      (λ e. rows_recorded b t s n ledger new h)))

  -- a request of a session, whose services are settled where it isn't refused
  session : (s : List ℕ) (n : ℕ) (services : List Service) (ledger : Ledger) (d : Decision) →
      AreRows b t ledger →
      (HasLive b t s (settled_touched b t s n services ledger) → AreRows b t d.after) →
      AreRows b t (refused_or (session_refusal b t s n services ledger) ledger d).after
  session s n services ledger d h f =
      unless_refused (session_refusal b t s n services ledger) ledger d h
      (λ e.
      let may = allowed (is_live (validity_of b) t ledger s) (any_passes b t s services ledger) _ e
      in
      f (still_live s n (settled_services b t s services ledger)
      (all_settled b t s services ledger may.1 (record { live = may.0; rows = h }))))

  update : (s : List ℕ) (n : ℕ) (services : List Service) (ledger : Ledger) → AreRows b t ledger →
      AreRows b t (decided b t s n (Update services) ledger).after
  update s n services ledger h =
      session s n services ledger (updated b t s n services ledger) h
      (λ settled. all_granted b t s services (settled_touched b t s n services ledger) settled)

  termination : (s : List ℕ) (n : ℕ) (services : List Service) (ledger : Ledger) →
      AreRows b t ledger → AreRows b t (decided b t s n (Termination services) ledger).after
  termination s n services ledger h =
      session s n services ledger (ended b t s n services ledger) h
      (λ settled. rows_closed b t s (settled_touched b t s n services ledger) settled.live
      settled.rows)

  -- ---- events

  charged : (o : Option GroupTariff) (s : List ℕ) (n : ℕ) (e : Event) (ledger : Ledger) →
      last_recording s ledger ≡ None → AreRows b t ledger →
      AreRows b t (charged_by o b t s n e ledger).after
  charged None s n e ledger new h = rows_recorded b t s n ledger new h
  charged (Some tariff) s n e ledger new h =
      let units : ℕ = event_units tariff e.requested in
      either_decision (is_covered b t e.group units ledger)
      (charged_at_once b tariff t s n e.group units ledger) _
      (λ covered. either_decision (debit_passes b t s e.group units ledger) _ _ (λ passes. h)
      (λ within. rows_recorded b t s n (debited b t s e.group units ledger)
      (unrecorded_debited b t s s e.group units ledger new)
      (rows_debited b t s e.group units ledger within h)))
      (λ uncovered. rows_recorded b t s n ledger new h)

  debit : (s : List ℕ) (n : ℕ) (e : Event) (ledger : Ledger) → AreRows b t ledger →
      AreRows b t (debit_decision b t s n e ledger).after
  debit s n e ledger h =
      unless_refused (debit_refusal (book_at b t) s e ledger) ledger
      (charged_unless_barred b t s n e ledger) h
      (λ free.
      let new : last_recording s ledger ≡ None =
      new_name (last_recording s ledger) (option_map invalid (event_fault (book_at b t) e)) free in
      either_decision (is_barred ledger) _ (charged_by (tariff_at b t e.group) b t s n e ledger)
      (λ barred. rows_recorded b t s n ledger new h)
      (λ unbarred. charged (tariff_at b t e.group) s n e ledger new h))

  event : (action : EventAction) (s : List ℕ) (n : ℕ) (e : Event) (ledger : Ledger) →
      AreRows b t ledger → AreRows b t (decided_action action b t s n e ledger).after
  event DirectDebiting s n e ledger h = debit s n e ledger h
  event CheckBalance s n e ledger h =
      unless_refused (read_refusal (book_at b t) e) ledger _ h (λ free. h)
  event PriceEnquiry s n e ledger h =
      unless_refused (read_refusal (book_at b t) e) ledger _ h (λ free. h)

  refund : (s : List ℕ) (n : ℕ) (r : Refunded) (ledger : Ledger) → AreRows b t ledger →
      AreRows b t (refund_decision b t s n r ledger).after
  refund s n r ledger h =
      unless_refused (refund_refusal (book_at b t) s r ledger) ledger (refunded t s n r ledger) h
      (λ free. either_decision (nat_lt 4294967295 (next_bucket ledger)) _ _ (λ full. h)
      (λ room. rows_recorded b t s n (credited t Money t 4102444800 None r.micros ledger)
      (new_name (last_recording s ledger) _ free)
      (rows_credited b t Money t 4102444800 None r.micros ledger
      (not_above 4294967295 (next_bucket ledger) room) tt h)))

  -- rule: runs.finite-rows
  pub request_rows : (s : List ℕ) (n : ℕ) (ask : Ask) (ledger : Ledger) → IsSoundLedger ledger →
      AreRows b t ledger → AreRows b t (decided b t s n ask ledger).after
  request_rows s n (Initial services) ledger sound h = initial s n services ledger sound h
  request_rows s n (Update services) ledger sound h = update s n services ledger h
  request_rows s n (Termination services) ledger sound h = termination s n services ledger h
  request_rows s n (Debit e) ledger sound h = event e.action s n e ledger h
  request_rows s n (Refund r) ledger sound h = refund s n r ledger h
