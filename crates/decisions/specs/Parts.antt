-- The parts of what a request comes to, each by itself, as code and lemmas speak of them. The
-- definitions of `Services` and `Decisions` compute to these.
-- Source: RFC 8506 sections 5, 6 and 8.
use Rattle.std.specs.Prelude.{Bool, false, not, ◌||◌, nat_lt, if◌then◌else◌, Option, Some, None, []}
use Rattle.std.specs.Prelude.{◌∷◌, List, option_map, ◌==◌, true, nat_le, ◌&&◌, ℕ, ◌+◌}
use Rattle.buckets.specs.declared.kind.BucketKind.TheVariants.{Money}
use Rattle.commands.specs.Refunds.{Refunded as Refund}
use Rattle.commands.specs.Used.{Used}
use Rattle.commands.specs.declared.answer.Balance.{Balance}
use Rattle.commands.specs.declared.answer.Balance.TheVariants.{EnoughCredit, NoCredit}
use Rattle.commands.specs.declared.answer.Failure.{Failure}
use Rattle.commands.specs.declared.answer.Failure.TheVariants.{Denied, UnableToComply}
use Rattle.commands.specs.declared.answer.Failure.TheVariants.{InvalidAvpValue, UnknownSessionId}
use Rattle.commands.specs.declared.answer.FinalUnit.{FinalUnit}
use Rattle.commands.specs.declared.answer.FinalUnit.TheVariants as final
use Rattle.commands.specs.declared.answer.Outcome.{Outcome}
use Rattle.commands.specs.declared.answer.Outcome.TheVariants.{Services, Refunded, Checked, Priced}
use Rattle.commands.specs.declared.answer.Outcome.TheVariants.{Failed}
use Rattle.commands.specs.declared.answer.ServiceAnswer.{ServiceAnswer}
use Rattle.commands.specs.declared.answer.ServiceFailure.{ServiceFailure}
use Rattle.commands.specs.declared.answer.ServiceFailure.TheVariants.{EndUserServiceDenied}
use Rattle.commands.specs.declared.answer.ServiceFailure.TheVariants.{CreditLimitReached}
use Rattle.commands.specs.declared.answer.ServiceFailure.TheVariants.{RatingFailed}
use Rattle.commands.specs.declared.answer.ServiceOutcome.{ServiceOutcome}
use Rattle.commands.specs.declared.answer.ServiceOutcome.TheVariants as service
use Rattle.commands.specs.declared.avp.Avp.{Avp}
use Rattle.commands.specs.declared.avp.Avp.TheVariants.{SessionId, RequestedUnit, CurrencyCode}
use Rattle.commands.specs.declared.avp.Avp.TheVariants.{RequestNumber, UsedUnit}
use Rattle.commands.specs.declared.request.Ask.{Ask}
use Rattle.commands.specs.declared.request.Ask.TheVariants as ask
use Rattle.commands.specs.declared.request.Event.{Event}
use Rattle.commands.specs.declared.request.EventAction.{EventAction}
use Rattle.commands.specs.declared.request.EventAction.TheVariants.{DirectDebiting, CheckBalance}
use Rattle.commands.specs.declared.request.EventAction.TheVariants.{PriceEnquiry}
use Rattle.commands.specs.declared.service.Requested.{Requested}
use Rattle.commands.specs.declared.service.Service.{Service}
use Rattle.decisions.specs.Decisions.{Decision, accepted, denied, told, has_record, refused_or}
use Rattle.decisions.specs.Decisions.{initial_decision, settled_touched, update_decision}
use Rattle.decisions.specs.Decisions.{termination_decision, event_decision, refund_decision}
use Rattle.decisions.specs.Decisions.{event_units, debit_decision, read_refusal}
use Rattle.decisions.specs.Services.{any_grants, first_denial, grant_answers, after_grants}
use Rattle.decisions.specs.Services.{Answered, is_known, units_of, asks_other, units_fault}
use Rattle.decisions.specs.Services.{settled_answers, parts_of}
use Rattle.identifiers.specs.Words.{SessionName}
use Rattle.ledger.specs.Debiting.{event_price, is_covered, debited, debit_passes}
use Rattle.ledger.specs.Ledger.{Ledger, is_barred, used, next_bucket, is_live, last_recording}
use Rattle.ledger.specs.Ledger.{Recording}
use Rattle.ledger.specs.Pricing.{switch_at, validity_at, wanted_units, tariff_at, tariff_of}
use Rattle.ledger.specs.Pricing.{validity_of}
use Rattle.ledger.specs.Requests.{recorded, credited, touched, closed}
use Rattle.ledger.specs.Reservation.{reserved, grant_for, held_due}
use Rattle.ledger.specs.Settlement.{reported, passes_after, charge_count}
use Rattle.rating.specs.declared.grant.Grant.{Grant}
use Rattle.shelves.specs.Shelves.{Shelf, book_at}
use Rattle.tariffs.specs.Books.{Book}
use Rattle.tariffs.specs.Tariffs.{GroupTariff}
use Rattle.tariffs.specs.declared.final_action.FinalAction.{FinalAction}
use Rattle.tariffs.specs.declared.final_action.FinalAction.TheVariants as action
use Rattle.units.specs.Blocks.{started}
use Rattle.units.specs.Words.{Moment, UnitCount, CcRequestNumber, no_end, greatest_number}
use Rattle.units.specs.Words.{most_blocks, GroupId}
use Rattle.units.specs.contracts.blocks.UnitKindPartialEq.TheImpl.{ghosts as kinds}
use Rattle.units.specs.declared.blocks.UnitKind.{UnitKind}
use Rattle.reserving.specs.declared.session.Session.{Session}

-- ---- grants (`Services`)

-- what follows the last units (Final-Unit-Action, RFC 8506 section 8.35)
abbrev pub last_unit : FinalAction → FinalUnit
last_unit action.Terminate = final.Terminate
last_unit (action.Redirect address) = final.Redirect address

-- Final-Unit-Indication (RFC 8506 section 8.34) is there exactly where fewer units are granted than
-- wanted
abbrev pub final_unit : GroupTariff → Bool → Option FinalUnit
final_unit tariff fewer = if fewer then Some (last_unit tariff.final_action) else None

-- of a group's tariff at a moment
module _ (b : Shelf) (tariff : GroupTariff) (t : Moment) where
  abbrev pub grant_answer : UnitCount → Option UnitCount → ServiceOutcome
  grant_answer units asked = service.Granted (record {
    quantity = record { kind = tariff.unit; units = units };
    switch = switch_at b t;
    validity = validity_at b t;
    last = final_unit tariff (nat_lt units (wanted_units tariff asked));
  })

  -- to a session's group
  module _ (s : SessionName) (g : GroupId) where
    abbrev pub granted_with : Option UnitCount → Grant → Ledger → Answered
    granted_with asked grant ledger =
        if nat_lt 0 grant.units.0
        then record {
          outcome = grant_answer grant.units.0 asked;
          after = reserved b t s g grant.units.0 (held_due grant) ledger;
        }
        else record { outcome = service.Failed CreditLimitReached; after = ledger }

    -- as far as the funds cover it
    abbrev pub granted_units : Option UnitCount → Ledger → Answered
    granted_units asked ledger =
        granted_with asked (grant_for b t g (used s g ledger) asked ledger) ledger

    -- a barred account is granted nothing
    abbrev pub granted_unless_barred : Option UnitCount → Ledger → Answered
    granted_unless_barred asked ledger =
        if is_barred ledger then record {
          outcome = service.Failed EndUserServiceDenied;
          after = ledger;
        } else granted_units asked ledger

    -- what a service asks for
    abbrev pub granted_if : Option Requested → Ledger → Answered
    granted_if requested ledger = as_asked requested
      where
        as_asked : Option Requested → Answered
        as_asked None = record { outcome = service.Settled; after = ledger }
        as_asked (Some r) = granted_unless_barred (units_of r) ledger

-- by the tariff of its group
abbrev pub granted_by : Option GroupTariff → Shelf → Moment → SessionName → Service → Ledger →
    Answered
granted_by tariff b t s x ledger = by_tariff tariff
  where
    by_tariff : Option GroupTariff → Answered
    by_tariff None = record { outcome = service.Failed RatingFailed; after = ledger }
    by_tariff (Some tariff) = granted_if b tariff t s x.group x.requested ledger

abbrev pub asked_units : Option Requested → Option UnitCount
asked_units None = None
asked_units (Some r) = units_of r

-- the service of a new session, which asks for units, would be granted one
abbrev pub grants_new : Shelf → Moment → Ledger → Service → Bool
grants_new b t ledger x =
    nat_lt 0 (grant_for b t x.group 0 (asked_units x.requested) ledger).units.0

-- why a service that grants nothing doesn't
abbrev pub denial : Book → Service → ServiceFailure
denial b x = if is_known b x.group then CreditLimitReached else RatingFailed

-- ---- units (`Services`)

abbrev pub is_kind : UnitKind → UnitKind → Bool
is_kind = kinds.eq

-- a use in other units than the group's, or one that starts more than 10^9 blocks
abbrev pub reports_other : GroupTariff → UnitCount → Option Used → Bool
reports_other tariff before None = false
reports_other tariff before (Some u) =
    not (is_kind u.kind tariff.unit) || nat_lt most_blocks
    (started before (reported (u.parts)) tariff.block)

-- what is wrong with the units of a service by its group's tariff, what it asks for first; nothing
-- where the group has none
abbrev pub wrong_units : Option GroupTariff → UnitCount → Service → Option Avp
wrong_units tariff before x = by_tariff tariff
  where
    by_tariff : Option GroupTariff → Option Avp
    by_tariff None = None
    by_tariff (Some tariff) =
        if asks_other tariff.unit x.requested then Some RequestedUnit
        else (if reports_other tariff before x.used then Some UsedUnit else None)

-- ---- refusals

abbrev pub invalid : Avp → Failure
invalid avp = InvalidAvpValue avp

-- what is wrong with the units of an event by its group's tariff
abbrev pub wrong_event : Option GroupTariff → Requested → Option Avp
wrong_event tariff requested = by_tariff tariff
  where
    by_tariff : Option GroupTariff → Option Avp
    by_tariff None = None
    by_tariff (Some tariff) =
        if asks_other tariff.unit (Some requested) || nat_lt most_blocks
        (started 0 (event_units tariff requested) tariff.block) then Some RequestedUnit else None

abbrev pub event_fault : Book → Event → Option Avp
event_fault b e = wrong_event (tariff_of b e.group) e.requested

-- a Session-Id names one event for good
abbrev pub debit_refusal : Book → SessionName → Event → Ledger → Option Failure
debit_refusal b s e ledger = if has_record s ledger then Some (invalid SessionId)
    else option_map invalid (event_fault b e)

-- a refund is in the book's currency
abbrev pub refund_refusal : Book → SessionName → Refund → Ledger → Option Failure
refund_refusal b s r ledger =
    if has_record s ledger then Some (invalid SessionId)
    else (if r.currency == b.currency then None else Some (invalid CurrencyCode))

-- a Session-Id names one session for good
abbrev pub initial_refusal : Book → SessionName → List Service → Ledger → Option Failure
initial_refusal b s services ledger =
    if has_record s ledger then Some (invalid SessionId)
    else option_map invalid (units_fault b s ledger services)

-- the number isn't greater than that of the last accepted request
abbrev pub is_late : CcRequestNumber → Option Recording → Bool
is_late n None = false
is_late n (Some r) = nat_le n r.number

-- what is refused before anything is settled
abbrev pub early_refusal : Shelf → Moment → SessionName → CcRequestNumber → List Service → Ledger →
    Option Failure
early_refusal b t s n services ledger =
    if not (is_live (validity_of b) t ledger s) then Some UnknownSessionId
    else (if is_late n (last_recording s ledger) then Some (invalid RequestNumber)
    else option_map invalid (units_fault (book_at b t) s ledger services))

abbrev pub limit_refusal : Bool → Option Failure
limit_refusal passes = if passes then Some UnableToComply else None

-- ---- events (`Decisions`)

-- by the tariff of its group
module _ (b : Shelf) (tariff : GroupTariff) (t : Moment) (s : SessionName) (n : CcRequestNumber)
    (g : GroupId) (units : UnitCount) where
  -- its units are charged at once
  abbrev pub charged_at_once : Ledger → Decision
  charged_at_once ledger =
      if debit_passes b t s g units ledger
      then told (Failed UnableToComply) ledger
      else accepted (Services (record {
        group = g;
        outcome = service.Debited (record { kind = tariff.unit; units = units });
      } ∷ []))
      (recorded t s n (debited b t s g units ledger))

  -- where the eligible buckets have their price
  abbrev pub charged_if_covered : Ledger → Decision
  charged_if_covered ledger =
      if is_covered b t g units ledger then charged_at_once ledger
      else denied t s n CreditLimitReached ledger

abbrev pub charged_by : Option GroupTariff → Shelf → Moment → SessionName → CcRequestNumber →
    Event → Ledger → Decision
charged_by tariff b t s n e ledger = by_tariff tariff
  where
    by_tariff : Option GroupTariff → Decision
    by_tariff None = denied t s n RatingFailed ledger
    by_tariff (Some tariff) =
        charged_if_covered b tariff t s n e.group (event_units tariff e.requested) ledger

-- a barred account is charged nothing
abbrev pub charged_unless_barred : Shelf → Moment → SessionName → CcRequestNumber → Event →
    Ledger → Decision
charged_unless_barred b t s n e ledger =
    if is_barred ledger then denied t s n EndUserServiceDenied ledger
    else charged_by (tariff_at b t e.group) b t s n e ledger

abbrev pub balance_of : Bool → Balance
balance_of covered = if covered then EnoughCredit else NoCredit

abbrev pub checked_by : Option GroupTariff → Shelf → Moment → Event → Ledger → Outcome
checked_by tariff b t e ledger = by_tariff tariff
  where
    by_tariff : Option GroupTariff → Outcome
    by_tariff None = Failed (Denied RatingFailed)
    by_tariff (Some tariff) =
        Checked (balance_of (is_covered b t e.group (event_units tariff e.requested) ledger))

abbrev pub priced_by : Option GroupTariff → Shelf → Moment → Event → Ledger → Outcome
priced_by tariff b t e ledger = by_tariff tariff
  where
    by_tariff : Option GroupTariff → Outcome
    by_tariff None = Failed (Denied RatingFailed)
    by_tariff (Some tariff) = Priced (record {
      micros = (event_price b t e.group 0 (event_units tariff e.requested) ledger).amount.0;
      currency = (book_at b t).currency;
    })

module _ (b : Shelf) (t : Moment) (e : Event) (ledger : Ledger) where
  abbrev pub check_decision : Decision
  check_decision = refused_or (read_refusal (book_at b t) e) ledger
      (told (checked_by (tariff_at b t e.group) b t e ledger) ledger)

  abbrev pub enquiry_decision : Decision
  enquiry_decision = refused_or (read_refusal (book_at b t) e) ledger
      (told (priced_by (tariff_at b t e.group) b t e ledger) ledger)

abbrev pub is_read_action : EventAction → Bool
is_read_action DirectDebiting = false
is_read_action CheckBalance = true
is_read_action PriceEnquiry = true

abbrev pub decided_action : EventAction → Shelf → Moment → SessionName → CcRequestNumber → Event →
    Ledger → Decision
decided_action action b t s n e ledger = by_action action
  where
    by_action : EventAction → Decision
    by_action DirectDebiting = debit_decision b t s n e ledger
    by_action CheckBalance = check_decision b t e ledger
    by_action PriceEnquiry = enquiry_decision b t e ledger

-- the money of a refund is a bucket from the moment on, without an end, for all groups
abbrev pub refunded : Moment → SessionName → CcRequestNumber → Refund → Ledger → Decision
refunded t s n r ledger =
    if nat_lt greatest_number (next_bucket ledger)
    then told (Failed UnableToComply) ledger
    else accepted Refunded (recorded t s n (credited t Money t no_end None r.micros ledger))

-- ---- sessions (`Decisions`)

-- of a session's request under its number, at a moment
module _ (b : Shelf) (t : Moment) (s : SessionName) (n : CcRequestNumber) where
  abbrev pub opened : List Service → Ledger → Decision
  opened services ledger =
      if any_grants b t ledger services
      then accepted (Services (grant_answers b t s services (touched t s n ledger)))
      (after_grants b t s services (touched t s n ledger))
      else denied t s n (first_denial (book_at b t) services) ledger

  abbrev pub opened_unless_barred : List Service → Ledger → Decision
  opened_unless_barred services ledger =
      if is_barred ledger then denied t s n EndUserServiceDenied ledger else opened services ledger

  abbrev pub updated : List Service → Ledger → Decision
  updated services ledger =
      accepted (Services (grant_answers b t s services (settled_touched b t s n services ledger)))
      (after_grants b t s services (settled_touched b t s n services ledger))

  abbrev pub ended : List Service → Ledger → Decision
  ended services ledger =
      accepted (Services (settled_answers (book_at b t) services))
      (closed t s (settled_touched b t s n services ledger))

  abbrev pub decided : Ask → Ledger → Decision
  decided x ledger = by_ask x
    where
      by_ask : Ask → Decision
      by_ask (ask.Initial services) = initial_decision b t s n services ledger
      by_ask (ask.Update services) = update_decision b t s n services ledger
      by_ask (ask.Termination services) = termination_decision b t s n services ledger
      by_ask (ask.Event event) = event_decision b t s n event ledger
      by_ask (ask.Refund refund) = refund_decision b t s n refund ledger

-- the answer to a service that asks for nothing
abbrev pub settled_answer : Book → Service → ServiceAnswer
settled_answer b x = record {
  group = x.group;
  outcome = if is_known b x.group then service.Settled else service.Failed RatingFailed;
}

-- ---- limits, all asked of one ledger

-- the settlement of a service would pass a limit, where so many charges are numbered before its own
abbrev pub service_passes_after : ℕ → Shelf → Moment → SessionName → Service → Ledger → Bool
service_passes_after charges b t s x ledger =
    is_known (book_at b t) x.group && passes_after charges b t s x.group (parts_of x.used) ledger

-- the charges of a service
abbrev pub service_charges : Book → Service → ℕ
service_charges b x = if is_known b x.group then charge_count (parts_of x.used) else 0

-- a settlement would pass a limit, all asked of one ledger: where groups differ, those before
-- change only the number of the charge
abbrev pub any_passes_after : ℕ → Shelf → Moment → SessionName → List Service → Ledger → Bool
any_passes_after charges b t s [] ledger = false
any_passes_after charges b t s (x ∷ xs) ledger =
    service_passes_after charges b t s x ledger || any_passes_after
    (charges + service_charges (book_at b t) x) b t s xs ledger

-- ---- numbers of requests

-- the number isn't greater than that of the last accepted request, by the session's row
abbrev pub is_late_row : CcRequestNumber → Option Session → Bool
is_late_row n None = false
is_late_row n (Some r) = nat_le n r.last_number
