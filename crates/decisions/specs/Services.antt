-- The services of a request: the units that they ask for and report (RFC 8506 sections 8.18 and
-- 8.19), their settlements and their grants, one after the other (sections 5.2 and 5.3; TS 32.299,
-- session charging with unit reservation).
use Rattle.std.specs.Prelude.{Bool, nat_lt, if◌then◌else◌, List, [], ◌∷◌, Option, Some, None, false}
use Rattle.std.specs.Prelude.{not, ◌||◌, ◌&&◌, map, is_some, option_and_then}
use Rattle.commands.specs.Used.{Used}
use Rattle.commands.specs.declared.answer.FinalUnit.{FinalUnit}
use Rattle.commands.specs.declared.answer.FinalUnit.TheVariants as final
use Rattle.commands.specs.declared.answer.ServiceAnswer.{ServiceAnswer}
use Rattle.commands.specs.declared.answer.ServiceFailure.{ServiceFailure}
use Rattle.commands.specs.declared.answer.ServiceFailure.TheVariants.{EndUserServiceDenied}
use Rattle.commands.specs.declared.answer.ServiceFailure.TheVariants.{CreditLimitReached}
use Rattle.commands.specs.declared.answer.ServiceFailure.TheVariants.{RatingFailed}
use Rattle.commands.specs.declared.answer.ServiceOutcome.{ServiceOutcome}
use Rattle.commands.specs.declared.answer.ServiceOutcome.TheVariants as service
use Rattle.commands.specs.declared.avp.Avp.{Avp}
use Rattle.commands.specs.declared.avp.Avp.TheVariants.{RequestedUnit, UsedUnit}
use Rattle.commands.specs.declared.service.Requested.{Requested}
use Rattle.commands.specs.declared.service.Requested.TheVariants.{Slice, Units}
use Rattle.commands.specs.declared.service.Service.{Service}
use Rattle.identifiers.specs.Words.{SessionName}
use Rattle.ledger.specs.Ledger.{Ledger, is_barred, used, or_else, test_of}
use Rattle.ledger.specs.Pricing.{switch_at, validity_at, wanted_units, tariff_at, tariff_of}
use Rattle.ledger.specs.Reservation.{reserved, grant_for, held_due}
use Rattle.ledger.specs.Settlement.{reported, settled_by, passes_limit}
use Rattle.rating.specs.declared.grant.Grant.{Grant}
use Rattle.shelves.specs.Shelves.{Shelf, book_at}
use Rattle.std.specs.List.{list_any}
use Rattle.tariffs.specs.Books.{Book}
use Rattle.tariffs.specs.Tariffs.{GroupTariff}
use Rattle.tariffs.specs.declared.final_action.FinalAction.{FinalAction}
use Rattle.tariffs.specs.declared.final_action.FinalAction.TheVariants as action
use Rattle.units.specs.Blocks.{started}
use Rattle.units.specs.Words.{Moment, UnitCount, most_blocks, GroupId}
use Rattle.units.specs.contracts.blocks.UnitKindPartialEq.TheImpl.{ghosts as kinds}
use Rattle.units.specs.declared.blocks.UnitKind.{UnitKind}
use Rattle.units.specs.declared.blocks.UsedPart.{UsedPart}

-- a rating group has a tariff (RFC 8506 sections 8.16 and 8.29)
abbrev pub is_known : Book → GroupId → Bool
is_known b g = is_some (tariff_of b g)

-- the units that are asked for; None: an empty Requested-Service-Unit, which asks for the group's
-- slice
abbrev pub units_of : Requested → Option UnitCount
units_of Slice = None
units_of (Units q) = Some q.units

-- the parts of a report
abbrev pub parts_of : Option Used → List UsedPart
parts_of None = []
parts_of (Some u) = u.parts

-- ---- units that a service can't speak of

abbrev pub asks_other : UnitKind → Option Requested → Bool
asks_other kind None = false
asks_other kind (Some Slice) = false
asks_other kind (Some (Units q)) = not (kinds.eq q.kind kind)

-- the first fault of the services' units, in their order: a service asks for other units than its
-- group's tariff has, or it reports use in others, or one that starts more than 10^9 blocks
-- rule: units: units of another kind than the group's
-- rule: block-limit: use, or an event's request, of more than 10^9 blocks
abbrev pub units_fault : Book → SessionName → Ledger → List Service → Option Avp
units_fault b s ledger [] = None
units_fault b s ledger (x ∷ xs) =
    or_else (option_and_then wrong_units (tariff_of b x.group)) (units_fault b s ledger xs)
  where
    reports_other : GroupTariff → Used → Bool
    reports_other tariff u =
        not (kinds.eq u.kind tariff.unit) || nat_lt most_blocks
        (started (used s x.group ledger) (reported (u.parts)) tariff.block)

    wrong_units : GroupTariff → Option Avp
    wrong_units tariff =
        if asks_other tariff.unit x.requested then Some RequestedUnit
        else (if test_of (reports_other tariff) x.used then Some UsedUnit else None)

-- ---- settlements and grants

-- what a service is answered, and the ledger after it
pub record Answered : Type 0 where
  pub outcome : ServiceOutcome
  pub after : Ledger

-- of a session's services at a moment
module _ (b : Shelf) (t : Moment) (s : SessionName) where
  -- a known group that is named is settled: its reservation ends, with the reported use or none
  abbrev pub settled_service : Service → Ledger → Ledger
  settled_service x ledger =
      if is_known (book_at b t) x.group then settled_by b t s x.group (parts_of x.used) ledger
      else ledger

  -- rule: termination
  abbrev pub settled_services : List Service → Ledger → Ledger
  settled_services [] ledger = ledger
  settled_services (x ∷ xs) ledger = settled_services xs (settled_service x ledger)

  -- a settlement would pass the limit of a stored number, each on the ledger that the one before
  -- leaves
  abbrev pub any_passes : List Service → Ledger → Bool
  any_passes [] ledger = false
  any_passes (x ∷ xs) ledger =
      (is_known (book_at b t) x.group && passes_limit b t s x.group (parts_of x.used) ledger)
      || any_passes xs (settled_service x ledger)

  -- the grant of a service, as far as the funds cover it: no unit is 4012, a barred account is
  -- granted nothing, 4010, a rating group without a tariff is 5031, and a service that asks for
  -- nothing is 2001
  -- rule: final-units: when units are final
  -- rule: service-codes: the code of each service
  -- rule: barred
  abbrev pub granted : Service → Ledger → Answered
  granted x ledger = by_tariff (tariff_at b t x.group)
    where
      failed : ServiceFailure → Answered
      failed why = record { outcome = service.Failed why; after = ledger }

      -- what follows the last units (Final-Unit-Action, RFC 8506 section 8.35)
      last_unit : FinalAction → FinalUnit
      last_unit action.Terminate = final.Terminate
      last_unit (action.Redirect address) = final.Redirect address

      -- Final-Unit-Indication (RFC 8506 section 8.34) is there exactly where fewer units are
      -- granted than wanted
      with_units : GroupTariff → Option UnitCount → Grant → Answered
      with_units tariff asked grant =
          if nat_lt 0 grant.units.0
          then record {
            outcome = service.Granted (record {
              quantity = record { kind = tariff.unit; units = grant.units.0 };
              switch = switch_at b t;
              validity = validity_at b t;
              last = if nat_lt grant.units.0 (wanted_units tariff asked)
                  then Some (last_unit tariff.final_action) else None;
            });
            after = reserved b t s x.group grant.units.0 (held_due grant) ledger;
          }
          else failed CreditLimitReached

      as_asked : GroupTariff → Option Requested → Answered
      as_asked tariff None = record { outcome = service.Settled; after = ledger }
      as_asked tariff (Some requested) =
          if is_barred ledger then failed EndUserServiceDenied
          else with_units tariff (units_of requested)
          (grant_for b t x.group (used s x.group ledger) (units_of requested) ledger)

      by_tariff : Option GroupTariff → Answered
      by_tariff None = failed RatingFailed
      by_tariff (Some tariff) = as_asked tariff x.requested

  -- the grants of all services, one after the other
  -- rule: initial.opened-by-grants
  abbrev pub grant_answers : List Service → Ledger → List ServiceAnswer
  grant_answers [] ledger = []
  grant_answers (x ∷ xs) ledger =
      record { group = x.group; outcome = (granted x ledger).outcome }
      ∷ grant_answers xs (granted x ledger).after

  -- rule: update
  abbrev pub after_grants : List Service → Ledger → Ledger
  after_grants [] ledger = ledger
  after_grants (x ∷ xs) ledger = after_grants xs (granted x ledger).after

-- a service that asks for nothing is 2001, or 5031 for a rating group without a tariff
-- rule: service-codes
abbrev pub settled_answers : Book → List Service → List ServiceAnswer
settled_answers b services = map (λ x. record {
  group = x.group;
  outcome = if is_known b x.group then service.Settled else service.Failed RatingFailed;
}) services

-- ---- a session that isn't open yet

-- some service of a new session, which asks for units, would be granted one; until one is granted
-- the funds stay the same, so that each can be asked for by itself
-- rule: initial
abbrev pub any_grants : Shelf → Moment → Ledger → List Service → Bool
any_grants b t ledger services =
    list_any (λ x. nat_lt 0
    (grant_for b t x.group 0 (option_and_then units_of x.requested) ledger).units.0) services

-- why the first service is granted nothing; a request without one has nothing to grant
-- rule: initial, service-codes
abbrev pub first_denial : Book → List Service → ServiceFailure
first_denial b [] = CreditLimitReached
first_denial b (x ∷ xs) = if is_known b x.group then CreditLimitReached else RatingFailed
