-- A request of a moment before books that are added later is decided alike over both shelves, on a
-- ledger that is before them too, and leaves such a one.
use Rattle.std.proofs.Common.{◌≡◌, ℕ, ◌<◌, Bool, true, false, List, [], ◌∷◌, ◌++◌, refl, sym, ap}
use Rattle.std.proofs.Common.{◌∙◌, Option, Some, None}
use Rattle.std.specs.Prelude.{if◌then◌else◌, not, ◌&&◌, ◌||◌, nat_lt, option_map}
use Rattle.std.specs.List.{list_any}
use Rattle.commands.specs.declared.answer.Failure.{Failure}
use Rattle.commands.specs.declared.answer.Failure.TheVariants.{UnableToComply}
use Rattle.commands.specs.declared.answer.Failure.TheVariants.{UnknownSessionId}
use Rattle.commands.specs.declared.answer.Outcome.TheVariants.{Services, Checked, Priced, Failed}
use Rattle.commands.specs.declared.answer.ServiceFailure.TheVariants.{EndUserServiceDenied}
use Rattle.commands.specs.declared.answer.ServiceFailure.TheVariants.{CreditLimitReached}
use Rattle.commands.specs.declared.answer.ServiceOutcome.TheVariants as service
use Rattle.commands.specs.declared.avp.Avp.TheVariants.{RequestNumber}
use Rattle.commands.specs.declared.request.Ask.{Ask}
use Rattle.commands.specs.declared.request.Ask.TheVariants.{Initial, Update, Termination}
use Rattle.commands.specs.declared.request.Ask.TheVariants.{Event as Debit, Refund}
use Rattle.commands.specs.declared.request.Event.{Event}
use Rattle.commands.specs.declared.request.EventAction.{EventAction}
use Rattle.commands.specs.declared.request.EventAction.TheVariants.{DirectDebiting, CheckBalance}
use Rattle.commands.specs.declared.request.EventAction.TheVariants.{PriceEnquiry}
use Rattle.commands.specs.declared.request.Request.{Request}
use Rattle.commands.specs.declared.service.Requested.{Requested}
use Rattle.commands.specs.declared.service.Service.{Service}
use Rattle.commands.specs.Refunds.{Refunded}
use Rattle.tariffs.specs.Books.{Book}
use Rattle.tariffs.specs.Tariffs.{GroupTariff}
use Rattle.rating.specs.declared.grant.Grant.{Grant}
use Rattle.rating.specs.declared.report.Rated.{Rated}
use Rattle.buckets.specs.Row.{BucketRow}
use Rattle.buckets.specs.Share.{parts}
use Rattle.buckets.specs.Holding.{paid}
use Rattle.buckets.specs.declared.kind.BucketKind.TheVariants.{Money}
use Rattle.shelves.specs.Shelves.{Shelf, book_at, count}
use Rattle.shelves.specs.Laws.{GoesOnFrom}
use Rattle.ledger.specs.Ledger.{Ledger, is_live, is_barred, last_recording, used, next_charge}
use Rattle.ledger.specs.Ledger.{next_bucket, or_else}
use Rattle.ledger.specs.Ledger.Fact.{Use}
use Rattle.ledger.specs.Pricing.{validity_of, tariff_of, tariff_at, switch_by, validity_by}
use Rattle.ledger.specs.Pricing.{wanted_units}
use Rattle.ledger.specs.Requests.{recorded, touched, closed, credited}
use Rattle.ledger.specs.Settlement.{settled_by, due_of, charge_facts, passes, use_of}
use Rattle.ledger.specs.Reservation.{reserved, grant_for, held_due}
use Rattle.ledger.specs.Debiting.{debited, debit_passes, is_covered}
use Rattle.reserving.proofs.LaterBooks.{AgreeBefore, live_same}
use Rattle.reserving.proofs.LaterCalls.{rows_same, place_same, settled_same, limit_same}
use Rattle.reserving.proofs.LaterCalls.{grant_same, reserved_same, event_same, rest_same}
use Rattle.reserving.proofs.LaterCalls.{covered_same}
use Rattle.decisions.specs.Decisions.{Decision, accepted, denied, told, refused_or, event_units}
use Rattle.decisions.specs.Decisions.{debit_decision, read_refusal, refund_decision}
use Rattle.decisions.specs.Decisions.{initial_decision, session_refusal, settled_touched}
use Rattle.decisions.specs.Decisions.{update_decision, termination_decision, decision}
use Rattle.decisions.specs.Services.{is_known, units_of, parts_of, units_fault, settled_service}
use Rattle.decisions.specs.Services.{settled_services, any_passes, settled_answers, Answered}
use Rattle.decisions.specs.Services.{granted, grant_answers, after_grants, any_grants, first_denial}
use Rattle.decisions.specs.Parts.{asked_units, check_decision, enquiry_decision, invalid, is_late}
use Rattle.decisions.specs.Parts.{grant_answer, granted_with, granted_units, granted_if, granted_by}
use Rattle.decisions.specs.Parts.{final_unit, debit_refusal, charged_at_once, charged_by}
use Rattle.decisions.specs.Parts.{charged_unless_barred, balance_of, checked_by, priced_by}
use Rattle.decisions.specs.Parts.{decided_action, refund_refusal, refunded, initial_refusal, opened}
use Rattle.decisions.specs.Parts.{opened_unless_barred, limit_refusal, updated, ended, decided}
use Rattle.charging.proofs.added_books.EarlyLedgers.{IsEarly, early_recorded, early_touched}
use Rattle.charging.proofs.added_books.EarlyLedgers.{early_closed, early_credited, early_settled}
use Rattle.charging.proofs.added_books.EarlyLedgers.{early_debited, early_reserved}

-- ---- one of two

either_early : (from n : ℕ) (c : Bool) (x y : Ledger) → IsEarly from n x → IsEarly from n y →
    IsEarly from n (if c then x else y)
either_early from n true x y p q = p
either_early from n false x y p q = q

either_decision : (from n : ℕ) (c : Bool) (x y : Decision) → IsEarly from n x.after →
    IsEarly from n y.after → IsEarly from n (if c then x else y).after
either_decision from n true x y p q = p
either_decision from n false x y p q = q

either_answered : (from n : ℕ) (c : Bool) (x y : Answered) → IsEarly from n x.after →
    IsEarly from n y.after → IsEarly from n (if c then x else y).after
either_answered from n true x y p q = p
either_answered from n false x y p q = q

unless_refused : (from n : ℕ) (o : Option Failure) (ledger : Ledger) (d : Decision) →
    IsEarly from n ledger → IsEarly from n d.after → IsEarly from n (refused_or o ledger d).after
unless_refused from n None ledger d p q = q
unless_refused from n (Some failure) ledger d p q = p

module _ (from : ℕ) (b u : Shelf) (on : GoesOnFrom from b u) (t : ℕ) (early : t < from) where
  pub book_same : book_at b t ≡ book_at u t
  book_same = sym (on.before t early).book

  abbrev IsEarlyLedger : Ledger → Type 0
  IsEarlyLedger ledger = IsEarly from (count b) ledger

  -- ---- settlements

  service_same : (s : List ℕ) (x : Service) (ledger : Ledger) → IsEarlyLedger ledger →
      settled_service b t s x ledger ≡ settled_service u t s x ledger
  service_same s x ledger h =
      let same : settled_by b t s x.group (parts_of x.used) ledger ≡
      settled_by u t s x.group (parts_of x.used) ledger =
      settled_same from b u on t early ledger h.before h.numbered s x.group (parts_of x.used) in
      λ i. if is_known (book_same i) x.group then same i else ledger

  service_early : (s : List ℕ) (x : Service) (ledger : Ledger) → IsEarlyLedger ledger →
      IsEarlyLedger (settled_service b t s x ledger)
  service_early s x ledger h =
      either_early from (count b) (is_known (book_at b t) x.group) _ ledger
      (early_settled from (count b) t early b s x.group (parts_of x.used) ledger h) h

  services_same : (s : List ℕ) (services : List Service) (ledger : Ledger) → IsEarlyLedger ledger →
      settled_services b t s services ledger ≡ settled_services u t s services ledger
  services_same s [] ledger h = refl
  services_same s (x ∷ xs) ledger h =
      services_same s xs (settled_service b t s x ledger) (service_early s x ledger h)
      ∙ ap (settled_services u t s xs) (service_same s x ledger h)

  services_early : (s : List ℕ) (services : List Service) (ledger : Ledger) →
      IsEarlyLedger ledger → IsEarlyLedger (settled_services b t s services ledger)
  services_early s [] ledger h = h
  services_early s (x ∷ xs) ledger h =
      services_early s xs (settled_service b t s x ledger) (service_early s x ledger h)

  passes_same : (s : List ℕ) (services : List Service) (ledger : Ledger) → IsEarlyLedger ledger →
      any_passes b t s services ledger ≡ any_passes u t s services ledger
  passes_same s [] ledger h = refl
  passes_same s (x ∷ xs) ledger h =
      let rest : any_passes b t s xs (settled_service b t s x ledger) ≡
      any_passes u t s xs (settled_service u t s x ledger) =
      passes_same s xs (settled_service b t s x ledger) (service_early s x ledger h)
      ∙ ap (any_passes u t s xs) (service_same s x ledger h) in
      λ i. (is_known (book_same i) x.group
      && limit_same from b u on t early ledger h.before h.numbered s x.group (parts_of x.used) i)
      || rest i

  -- ---- grants

  answer_same : (tariff : GroupTariff) (units : ℕ) (asked : Option ℕ) →
      grant_answer b tariff t units asked ≡ grant_answer u tariff t units asked
  answer_same tariff units asked = λ i. service.Granted (record {
    quantity = record { kind = tariff.unit; units = units };
    switch = switch_by (book_same i) t;
    validity = validity_by (book_same i) t;
    last = final_unit tariff (nat_lt units (wanted_units tariff asked));
  })

  with_same : (tariff : GroupTariff) (s : List ℕ) (g : ℕ) (asked : Option ℕ) (grant : Grant)
      (ledger : Ledger) → IsEarlyLedger ledger →
      granted_with b tariff t s g asked grant ledger ≡
      granted_with u tariff t s g asked grant ledger
  with_same tariff s g asked grant ledger h =
      let held : reserved b t s g grant.units.0 (held_due grant) ledger ≡
      reserved u t s g grant.units.0 (held_due grant) ledger =
      reserved_same from b u on t early ledger h.before h.numbered s g grant.units.0
      (held_due grant) in
      λ i. if nat_lt 0 grant.units.0
      then record { outcome = answer_same tariff grant.units.0 asked i; after = held i }
      else record { outcome = service.Failed CreditLimitReached; after = ledger }

  units_same : (tariff : GroupTariff) (s : List ℕ) (g : ℕ) (asked : Option ℕ) (ledger : Ledger) →
      IsEarlyLedger ledger →
      granted_units b tariff t s g asked ledger ≡ granted_units u tariff t s g asked ledger
  units_same tariff s g asked ledger h =
      with_same tariff s g asked (grant_for b t g (used s g ledger) asked ledger) ledger h
      ∙ ap (λ (grant : Grant). granted_with u tariff t s g asked grant ledger)
      (grant_same from b u on t early ledger h.before h.numbered g (used s g ledger) asked)

  if_same : (tariff : GroupTariff) (s : List ℕ) (g : ℕ) (asked : Option Requested)
      (ledger : Ledger) → IsEarlyLedger ledger →
      granted_if b tariff t s g asked ledger ≡ granted_if u tariff t s g asked ledger
  if_same tariff s g None ledger h = refl
  if_same tariff s g (Some requested) ledger h =
      ap (λ (x : Answered). if is_barred ledger
      then record { outcome = service.Failed EndUserServiceDenied; after = ledger } else x)
      (units_same tariff s g (units_of requested) ledger h)

  by_same : (o : Option GroupTariff) (s : List ℕ) (x : Service) (ledger : Ledger) →
      IsEarlyLedger ledger → granted_by o b t s x ledger ≡ granted_by o u t s x ledger
  by_same None s x ledger h = refl
  by_same (Some tariff) s x ledger h = if_same tariff s x.group x.requested ledger h

  granted_same : (s : List ℕ) (x : Service) (ledger : Ledger) → IsEarlyLedger ledger →
      granted b t s x ledger ≡ granted u t s x ledger
  granted_same s x ledger h =
      by_same (tariff_at b t x.group) s x ledger h
      ∙ (λ i. granted_by (tariff_of (book_same i) x.group) u t s x ledger)

  if_early : (tariff : GroupTariff) (s : List ℕ) (g : ℕ) (asked : Option Requested)
      (ledger : Ledger) → IsEarlyLedger ledger →
      IsEarlyLedger (granted_if b tariff t s g asked ledger).after
  if_early tariff s g None ledger h = h
  if_early tariff s g (Some requested) ledger h =
      either_answered from (count b) (is_barred ledger) _ _ h
      (either_answered from (count b) _ _ _
      (early_reserved from t early b s g _ _ ledger h) h)

  by_early : (o : Option GroupTariff) (s : List ℕ) (x : Service) (ledger : Ledger) →
      IsEarlyLedger ledger → IsEarlyLedger (granted_by o b t s x ledger).after
  by_early None s x ledger h = h
  by_early (Some tariff) s x ledger h = if_early tariff s x.group x.requested ledger h

  answers_same : (s : List ℕ) (services : List Service) (ledger : Ledger) → IsEarlyLedger ledger →
      grant_answers b t s services ledger ≡ grant_answers u t s services ledger
  answers_same s [] ledger h = refl
  answers_same s (x ∷ xs) ledger h =
      let rest : grant_answers b t s xs (granted b t s x ledger).after ≡
      grant_answers u t s xs (granted u t s x ledger).after =
      answers_same s xs (granted b t s x ledger).after
      (by_early (tariff_at b t x.group) s x ledger h)
      ∙ (λ i. grant_answers u t s xs (granted_same s x ledger h i).after) in
      λ i. record { group = x.group; outcome = (granted_same s x ledger h i).outcome } ∷ rest i

  grants_same : (s : List ℕ) (services : List Service) (ledger : Ledger) → IsEarlyLedger ledger →
      after_grants b t s services ledger ≡ after_grants u t s services ledger
  grants_same s [] ledger h = refl
  grants_same s (x ∷ xs) ledger h =
      grants_same s xs (granted b t s x ledger).after
      (by_early (tariff_at b t x.group) s x ledger h)
      ∙ (λ i. after_grants u t s xs (granted_same s x ledger h i).after)

  grants_early : (s : List ℕ) (services : List Service) (ledger : Ledger) → IsEarlyLedger ledger →
      IsEarlyLedger (after_grants b t s services ledger)
  grants_early s [] ledger h = h
  grants_early s (x ∷ xs) ledger h =
      grants_early s xs (granted b t s x ledger).after
      (by_early (tariff_at b t x.group) s x ledger h)

  any_same : (services : List Service) (ledger : Ledger) → IsEarlyLedger ledger →
      any_grants b t ledger services ≡ any_grants u t ledger services
  any_same services ledger h =
      λ i. list_any (λ x. nat_lt 0 (grant_same from b u on t early ledger h.before h.numbered
      x.group 0 (asked_units x.requested) i).units.0) services

  -- ---- sessions

  all_same : (s : List ℕ) (services : List Service) (ledger : Ledger) → IsEarlyLedger ledger →
      accepted (Services (grant_answers b t s services ledger)) (after_grants b t s services ledger)
      ≡ accepted (Services (grant_answers u t s services ledger))
      (after_grants u t s services ledger)
  all_same s services ledger h = λ i. accepted (Services (answers_same s services ledger h i))
      (grants_same s services ledger h i)

  opened_same : (s : List ℕ) (n : ℕ) (services : List Service) (ledger : Ledger) →
      IsEarlyLedger ledger → opened b t s n services ledger ≡ opened u t s n services ledger
  opened_same s n services ledger h =
      let touch : IsEarlyLedger (touched t s n ledger) =
      early_touched from (count b) t early s n ledger h in
      λ i. if any_same services ledger h i
      then all_same s services (touched t s n ledger) touch i
      else denied t s n (first_denial (book_same i) services) ledger

  initial_same : (s : List ℕ) (n : ℕ) (services : List Service) (ledger : Ledger) →
      IsEarlyLedger ledger →
      initial_decision b t s n services ledger ≡ initial_decision u t s n services ledger
  initial_same s n services ledger h =
      λ i. refused_or (initial_refusal (book_same i) s services ledger) ledger
      (if is_barred ledger then denied t s n EndUserServiceDenied ledger
      else opened_same s n services ledger h i)

  initial_early : (s : List ℕ) (n : ℕ) (services : List Service) (ledger : Ledger) →
      IsEarlyLedger ledger → IsEarlyLedger (initial_decision b t s n services ledger).after
  initial_early s n services ledger h =
      let deny : IsEarlyLedger (recorded t s n ledger) =
      early_recorded from (count b) t early s n ledger h in
      unless_refused from (count b) (initial_refusal (book_at b t) s services ledger) ledger
      (opened_unless_barred b t s n services ledger) h
      (either_decision from (count b) (is_barred ledger) _ (opened b t s n services ledger) deny
      (either_decision from (count b) (any_grants b t ledger services) _ _
      (grants_early s services (touched t s n ledger)
      (early_touched from (count b) t early s n ledger h)) deny))

  valid : AgreeBefore from (validity_of b) (validity_of u)
  valid x lt = ap (λ (y : Book). y.validity) (sym (on.before x lt).book)

  live : (ledger : Ledger) → IsEarlyLedger ledger →
      is_live (validity_of b) t ledger ≡ is_live (validity_of u) t ledger
  live ledger h = live_same from (validity_of b) (validity_of u) t ledger valid h.before

  refusal_same : (s : List ℕ) (n : ℕ) (services : List Service) (ledger : Ledger) →
      IsEarlyLedger ledger →
      session_refusal b t s n services ledger ≡ session_refusal u t s n services ledger
  refusal_same s n services ledger h =
      λ i. or_else
      (if not (live ledger h i s) then Some UnknownSessionId
      else (if is_late n (last_recording s ledger) then Some (invalid RequestNumber)
      else option_map invalid (units_fault (book_same i) s ledger services)))
      (limit_refusal (passes_same s services ledger h i))

  settled_touched_early : (s : List ℕ) (n : ℕ) (services : List Service) (ledger : Ledger) →
      IsEarlyLedger ledger → IsEarlyLedger (settled_touched b t s n services ledger)
  settled_touched_early s n services ledger h =
      early_touched from (count b) t early s n (settled_services b t s services ledger)
      (services_early s services ledger h)

  updated_same : (s : List ℕ) (n : ℕ) (services : List Service) (ledger : Ledger) →
      IsEarlyLedger ledger → updated b t s n services ledger ≡ updated u t s n services ledger
  updated_same s n services ledger h =
      all_same s services (settled_touched b t s n services ledger)
      (settled_touched_early s n services ledger h)
      ∙ ap (λ (mid : Ledger). accepted (Services (grant_answers u t s services mid))
      (after_grants u t s services mid))
      (ap (touched t s n) (services_same s services ledger h))

  update_same : (s : List ℕ) (n : ℕ) (services : List Service) (ledger : Ledger) →
      IsEarlyLedger ledger →
      update_decision b t s n services ledger ≡ update_decision u t s n services ledger
  update_same s n services ledger h =
      λ i. refused_or (refusal_same s n services ledger h i) ledger
      (updated_same s n services ledger h i)

  update_early : (s : List ℕ) (n : ℕ) (services : List Service) (ledger : Ledger) →
      IsEarlyLedger ledger → IsEarlyLedger (update_decision b t s n services ledger).after
  update_early s n services ledger h =
      unless_refused from (count b) (session_refusal b t s n services ledger) ledger
      (updated b t s n services ledger) h
      (grants_early s services (settled_touched b t s n services ledger)
      (settled_touched_early s n services ledger h))

  termination_same : (s : List ℕ) (n : ℕ) (services : List Service) (ledger : Ledger) →
      IsEarlyLedger ledger →
      termination_decision b t s n services ledger ≡ termination_decision u t s n services ledger
  termination_same s n services ledger h =
      λ i. refused_or (refusal_same s n services ledger h i) ledger
      (accepted (Services (settled_answers (book_same i) services))
      (closed t s (touched t s n (services_same s services ledger h i))))

  termination_early : (s : List ℕ) (n : ℕ) (services : List Service) (ledger : Ledger) →
      IsEarlyLedger ledger → IsEarlyLedger (termination_decision b t s n services ledger).after
  termination_early s n services ledger h =
      unless_refused from (count b) (session_refusal b t s n services ledger) ledger
      (ended b t s n services ledger) h
      (early_closed from (count b) t early s (settled_touched b t s n services ledger)
      (settled_touched_early s n services ledger h))

  -- ---- events

  debited_same : (s : List ℕ) (g units : ℕ) (ledger : Ledger) → IsEarlyLedger ledger →
      debited b t s g units ledger ≡ debited u t s g units ledger
  debited_same s g units ledger h =
      λ i. debited_at (rest_same from b u on t early ledger h.before h.numbered g units i)
      (rows_same from b u on t early ledger h.before h.numbered i)
    where
      debited_at : Rated → List BucketRow → Ledger
      debited_at r rows =
          record {
            at = t;
            fact = Use (use_of s g units r.blocks (due_of r) 0);
          } ∷ charge_facts t (parts (paid [] g t (due_of r) rows) rows) ++ ledger

  charged_same : (tariff : GroupTariff) (s : List ℕ) (n g units : ℕ) (ledger : Ledger) →
      IsEarlyLedger ledger →
      charged_at_once b tariff t s n g units ledger ≡ charged_at_once u tariff t s n g units ledger
  charged_same tariff s n g units ledger h =
      λ i. if passes (used s g ledger) units
      (place_same from b u on t early ledger h.before h.numbered g i)
      (rest_same from b u on t early ledger h.before h.numbered g units i).blocks
      (next_charge ledger)
      then told (Failed UnableToComply) ledger
      else accepted (Services (record {
        group = g;
        outcome = service.Debited (record { kind = tariff.unit; units = units });
      } ∷ [])) (recorded t s n (debited_same s g units ledger h i))

  charged_by_same : (o : Option GroupTariff) (s : List ℕ) (n : ℕ) (e : Event) (ledger : Ledger) →
      IsEarlyLedger ledger → charged_by o b t s n e ledger ≡ charged_by o u t s n e ledger
  charged_by_same None s n e ledger h = refl
  charged_by_same (Some tariff) s n e ledger h =
      let units : ℕ = event_units tariff e.requested in
      λ i. if covered_same from b u on t early ledger h.before h.numbered e.group units i
      then charged_same tariff s n e.group units ledger h i
      else denied t s n CreditLimitReached ledger

  debit_same : (s : List ℕ) (n : ℕ) (e : Event) (ledger : Ledger) → IsEarlyLedger ledger →
      debit_decision b t s n e ledger ≡ debit_decision u t s n e ledger
  debit_same s n e ledger h =
      let priced : charged_by (tariff_at b t e.group) b t s n e ledger ≡
      charged_by (tariff_at u t e.group) u t s n e ledger =
      charged_by_same (tariff_at b t e.group) s n e ledger h
      ∙ (λ i. charged_by (tariff_of (book_same i) e.group) u t s n e ledger) in
      λ i. refused_or (debit_refusal (book_same i) s e ledger) ledger
      (if is_barred ledger then denied t s n EndUserServiceDenied ledger else priced i)

  charged_by_early : (o : Option GroupTariff) (s : List ℕ) (n : ℕ) (e : Event) (ledger : Ledger) →
      IsEarlyLedger ledger → IsEarlyLedger (charged_by o b t s n e ledger).after
  charged_by_early None s n e ledger h = early_recorded from (count b) t early s n ledger h
  charged_by_early (Some tariff) s n e ledger h =
      let units : ℕ = event_units tariff e.requested in
      either_decision from (count b) (is_covered b t e.group units ledger)
      (charged_at_once b tariff t s n e.group units ledger) _
      (either_decision from (count b) (debit_passes b t s e.group units ledger) _ _ h
      (early_recorded from (count b) t early s n (debited b t s e.group units ledger)
      (early_debited from (count b) t early b s e.group units ledger h)))
      (early_recorded from (count b) t early s n ledger h)

  debit_early : (s : List ℕ) (n : ℕ) (e : Event) (ledger : Ledger) → IsEarlyLedger ledger →
      IsEarlyLedger (debit_decision b t s n e ledger).after
  debit_early s n e ledger h =
      unless_refused from (count b) (debit_refusal (book_at b t) s e ledger) ledger
      (charged_unless_barred b t s n e ledger) h
      (either_decision from (count b) (is_barred ledger) _
      (charged_by (tariff_at b t e.group) b t s n e ledger)
      (early_recorded from (count b) t early s n ledger h)
      (charged_by_early (tariff_at b t e.group) s n e ledger h))

  checked_same : (o : Option GroupTariff) (e : Event) (ledger : Ledger) → IsEarlyLedger ledger →
      checked_by o b t e ledger ≡ checked_by o u t e ledger
  checked_same None e ledger h = refl
  checked_same (Some tariff) e ledger h =
      λ i. Checked (balance_of (covered_same from b u on t early ledger h.before h.numbered e.group
      (event_units tariff e.requested) i))

  check_same : (e : Event) (ledger : Ledger) → IsEarlyLedger ledger →
      check_decision b t e ledger ≡ check_decision u t e ledger
  check_same e ledger h =
      let outcome : checked_by (tariff_at b t e.group) b t e ledger ≡
      checked_by (tariff_at u t e.group) u t e ledger =
      checked_same (tariff_at b t e.group) e ledger h
      ∙ (λ i. checked_by (tariff_of (book_same i) e.group) u t e ledger) in
      λ i. refused_or (read_refusal (book_same i) e) ledger (told (outcome i) ledger)

  priced_same : (o : Option GroupTariff) (e : Event) (ledger : Ledger) → IsEarlyLedger ledger →
      priced_by o b t e ledger ≡ priced_by o u t e ledger
  priced_same None e ledger h = refl
  priced_same (Some tariff) e ledger h =
      λ i. Priced (record {
        micros = (event_same from b u on t early ledger h.before h.numbered e.group 0
            (event_units tariff e.requested) i).amount.0;
        currency = (book_same i).currency;
      })

  enquiry_same : (e : Event) (ledger : Ledger) → IsEarlyLedger ledger →
      enquiry_decision b t e ledger ≡ enquiry_decision u t e ledger
  enquiry_same e ledger h =
      let outcome : priced_by (tariff_at b t e.group) b t e ledger ≡
      priced_by (tariff_at u t e.group) u t e ledger =
      priced_same (tariff_at b t e.group) e ledger h
      ∙ (λ i. priced_by (tariff_of (book_same i) e.group) u t e ledger) in
      λ i. refused_or (read_refusal (book_same i) e) ledger (told (outcome i) ledger)

  action_same : (action : EventAction) (s : List ℕ) (n : ℕ) (e : Event) (ledger : Ledger) →
      IsEarlyLedger ledger →
      decided_action action b t s n e ledger ≡ decided_action action u t s n e ledger
  action_same DirectDebiting s n e ledger h = debit_same s n e ledger h
  action_same CheckBalance s n e ledger h = check_same e ledger h
  action_same PriceEnquiry s n e ledger h = enquiry_same e ledger h

  action_early : (action : EventAction) (s : List ℕ) (n : ℕ) (e : Event) (ledger : Ledger) →
      IsEarlyLedger ledger → IsEarlyLedger (decided_action action b t s n e ledger).after
  action_early DirectDebiting s n e ledger h = debit_early s n e ledger h
  action_early CheckBalance s n e ledger h =
      unless_refused from (count b) (read_refusal (book_at b t) e) ledger _ h h
  action_early PriceEnquiry s n e ledger h =
      unless_refused from (count b) (read_refusal (book_at b t) e) ledger _ h h

  refund_early : (s : List ℕ) (n : ℕ) (r : Refunded) (ledger : Ledger) → IsEarlyLedger ledger →
      IsEarlyLedger (refund_decision b t s n r ledger).after
  refund_early s n r ledger h =
      unless_refused from (count b) (refund_refusal (book_at b t) s r ledger) ledger
      (refunded t s n r ledger) h
      (either_decision from (count b) (nat_lt 4294967295 (next_bucket ledger)) _ _ h
      (early_recorded from (count b) t early s n
      (credited t Money t 4102444800 None r.micros ledger)
      (early_credited from (count b) t early Money t 4102444800 None r.micros ledger h)))

  -- ---- a request

  decided_same : (s : List ℕ) (n : ℕ) (ask : Ask) (ledger : Ledger) → IsEarlyLedger ledger →
      decided b t s n ask ledger ≡ decided u t s n ask ledger
  decided_same s n (Initial services) ledger h = initial_same s n services ledger h
  decided_same s n (Update services) ledger h = update_same s n services ledger h
  decided_same s n (Termination services) ledger h = termination_same s n services ledger h
  decided_same s n (Debit e) ledger h = action_same e.action s n e ledger h
  decided_same s n (Refund r) ledger h =
      λ i. refused_or (refund_refusal (book_same i) s r ledger) ledger (refunded t s n r ledger)

  decided_early : (s : List ℕ) (n : ℕ) (ask : Ask) (ledger : Ledger) → IsEarlyLedger ledger →
      IsEarlyLedger (decided b t s n ask ledger).after
  decided_early s n (Initial services) ledger h = initial_early s n services ledger h
  decided_early s n (Update services) ledger h = update_early s n services ledger h
  decided_early s n (Termination services) ledger h = termination_early s n services ledger h
  decided_early s n (Debit e) ledger h = action_early e.action s n e ledger h
  decided_early s n (Refund r) ledger h = refund_early s n r ledger h

  -- rule: later-books.goes-on-after
  pub decision_same : (r : Request) (ledger : Ledger) → IsEarly from (count b) ledger →
      decision b t r ledger ≡ decision u t r ledger
  decision_same r ledger h = decided_same r.session r.number r.ask ledger h

  pub decision_early : (r : Request) (ledger : Ledger) → IsEarly from (count b) ledger →
      IsEarly from (count b) (decision b t r ledger).after
  decision_early r ledger h = decided_early r.session r.number r.ask ledger h
