-- An initial request opens a session exactly where a grant is made.
use Rattle.std.proofs.Common.{◌≡◌, ℕ, Bool, true, false, true≢false, List, [], ◌∷◌, refl, sym, ap}
use Rattle.std.proofs.Common.{◌∙◌, arith, Option, Some, None}
use Rattle.std.specs.Prelude.{if◌then◌else◌, ◌&&◌, ◌||◌, not, nat_lt, nat_le, is_some, is_none}
use Rattle.std.specs.Prelude.{length}
use Rattle.std.specs.List.{list_any, list_all}
use Rattle.std.proofs.lemmas.Bool.{and_parts, or_parts}
use Rattle.commands.specs.Services.{groups_differ}
use Rattle.commands.specs.declared.answer.ServiceAnswer.{ServiceAnswer}
use Rattle.commands.specs.declared.answer.ServiceFailure.TheVariants.{CreditLimitReached}
use Rattle.commands.specs.declared.answer.ServiceFailure.TheVariants.{RatingFailed}
use Rattle.commands.specs.declared.answer.ServiceFailure.TheVariants.{EndUserServiceDenied}
use Rattle.commands.specs.declared.answer.ServiceOutcome.TheVariants as service
use Rattle.commands.specs.declared.service.Requested.{Requested}
use Rattle.commands.specs.declared.service.Service.{Service}
use Rattle.buckets.specs.Spend.{funds, allowance}
use Rattle.shelves.specs.Shelves.{Shelf, book_at}
use Rattle.tariffs.specs.Tariffs.{GroupTariff}
use Rattle.rating.specs.declared.grant.Grant.{Grant as RatedGrant}
use Rattle.ledger.specs.Ledger.{Ledger, is_same, is_live, is_barred, last_recording, held, used}
use Rattle.ledger.specs.Ledger.{counter, has_group}
use Rattle.ledger.specs.Balance.{buckets_at}
use Rattle.ledger.specs.Pricing.{tariff_at, cycle_at, periods_at, validity_of, grant_with}
use Rattle.ledger.specs.Requests.{touched}
use Rattle.ledger.specs.Reservation.{reserved, grant_for, held_due}
use Rattle.ledger.specs.SoundLedger.{IsSoundLedger}
use Rattle.ledger.proofs.Holds.{held_split, held_same, split_by, split_less}
use Rattle.ledger.proofs.Names.{is_same-sym}
use Rattle.reserving.proofs.SettledRows.{used_none}
use Rattle.reserving.proofs.rows.Touching.{SameMoney, same_touched, buckets_at-same}
use Rattle.decisions.specs.Services.{units_of, Answered, granted, grant_answers, any_grants}
use Rattle.decisions.specs.Services.{first_denial}
use Rattle.decisions.specs.Parts.{asked_units, grant_answer, granted_units, granted_if, granted_by}
use Rattle.decisions.specs.Parts.{grants_new, denial}
use Rattle.charging.specs.Served.{history}
use Rattle.charging.specs.Opening.{is_granted, IsFirstDenial, SessionsOpenByGrants}
use Rattle.charging.proofs.steps.KeptHistories.{kept_history}
use Rattle.charging.proofs.steps.Recorded.{new_has_no_groups}
use Rattle.charging.proofs.steps.Sound.{IsSoundHistory, sound_none, keeps_sound}

-- ---- a new session holds nothing, so that touching it leaves each bucket

both_but : (p q y : Bool) → (y ≡ false → p ≡ q) → (p && not y) ≡ (q && not y)
both_but p q false h = ap (λ x. x && true) (h refl)
both_but true true true h = refl
both_but true false true h = refl
both_but false true true h = refl
both_but false false true h = refl

-- without the session, where it holds nothing
held_but : (p : List ℕ → ℕ → Bool) (s : List ℕ) (n : ℕ) (ledger : Ledger) →
    held (λ x g. is_same x s) n ledger ≡ 0 →
    held p n ledger ≡ held (λ x g. p x g && not (is_same x s)) n ledger
held_but p s n ledger none =
    omega (
      arith,
      none,
      held_split p (λ x g. p x g && is_same x s) (λ x g. p x g && not (is_same x s)) n ledger
          (split_by p (λ x g. is_same x s)),
      held_split (λ x g. is_same x s) (λ x g. p x g && is_same x s)
          (λ x g. is_same x s && not (p x g && is_same x s)) n ledger
          (λ x g. split_less (is_same x s) (p x g && is_same x s)
          (λ e. (and_parts (p x g) (is_same x s) e).1)),
    )

module _ (b : Shelf) (t : ℕ) (s : List ℕ) (n : ℕ) (ledger : Ledger) (sound : IsSoundLedger ledger)
    (fresh : last_recording s ledger ≡ None)
    (unused : (g : ℕ) → has_group s g ledger ≡ false)
    (unbarred : is_barred ledger ≡ false) where
  abbrev begun : Ledger
  begun = touched t s n ledger

  others : (x : List ℕ) → is_same x s ≡ false →
      is_live (validity_of b) t begun x ≡ is_live (validity_of b) t ledger x
  others x e = let other : is_same s x ≡ false = is_same-sym s x ∙ e in rw other refl

  live_same : (m : ℕ) →
      held (λ x g. is_live (validity_of b) t begun x) m ledger
      ≡ held (λ x g. is_live (validity_of b) t ledger x) m ledger
  live_same m =
      held_but (λ x g. is_live (validity_of b) t begun x) s m ledger
      ((sound.unknown s fresh).held m)
      ∙ held_same (λ x g. is_live (validity_of b) t begun x && not (is_same x s))
      (λ x g. is_live (validity_of b) t ledger x && not (is_same x s)) m ledger
      (λ x g. both_but (is_live (validity_of b) t begun x) (is_live (validity_of b) t ledger x)
      (is_same x s) (others x))
      ∙ sym (held_but (λ x g. is_live (validity_of b) t ledger x) s m ledger
      ((sound.unknown s fresh).held m))

  rows_same : buckets_at (validity_of b) t begun ≡ buckets_at (validity_of b) t ledger
  rows_same = buckets_at-same (validity_of b) t begun ledger (same_touched t s n ledger) live_same

  -- ---- a service of the new session

  grant_same : (g : ℕ) (asked : Option ℕ) →
      grant_for b t g (used s g begun) asked begun ≡ grant_for b t g 0 asked ledger
  grant_same g asked =
      let money : SameMoney begun ledger = same_touched t s n ledger in
      let none : used s g begun ≡ 0 = money.used s g ∙ used_none s g ledger (unused g) in
      λ i. grant_with (tariff_at b t g) (periods_at b t) (none i)
      (money.counter (cycle_at b g) g (cycle_at b g t) i) asked (funds g t (rows_same i))
      (allowance g t (rows_same i))

  -- what units are granted is by the definition
  module _ (tariff : GroupTariff) (g : ℕ) (asked : Option ℕ) (grant : RatedGrant) where
    abbrev by_units : Bool → Answered
    by_units some =
        if some
        then record {
          outcome = grant_answer b tariff t grant.units.0 asked;
          after = reserved b t s g grant.units.0 (held_due grant) begun;
        }
        else record { outcome = service.Failed CreditLimitReached; after = begun }

    granted_is : (some : Bool) → is_granted (by_units some).outcome ≡ some
    granted_is true = refl
    granted_is false = refl

    stays_if : (some : Bool) → is_granted (by_units some).outcome ≡ false →
        (by_units some).after ≡ begun
    stays_if true e = absurd (true≢false e)
    stays_if false e = refl

    failed_if : (some : Bool) → is_granted (by_units some).outcome ≡ false →
        (by_units some).outcome ≡ service.Failed CreditLimitReached
    failed_if true e = absurd (true≢false e)
    failed_if false e = refl

  -- what a service is granted
  record IsGrantedAlike (x : Service) (y : Answered) : Type 0 where
    told : is_granted y.outcome ≡ grants_new b t ledger x
    stays : is_granted y.outcome ≡ false → y.after ≡ begun
    failed : is_granted y.outcome ≡ false →
        y.outcome ≡ service.Failed (denial (book_at b t) x)

  by_unbarred : (tariff : GroupTariff) (x : Service) (r : Requested) →
      tariff_at b t x.group ≡ Some tariff → x.requested ≡ Some r →
      IsGrantedAlike x (granted_units b tariff t s x.group (units_of r) begun)
  by_unbarred tariff x r known asked =
      let grant : RatedGrant =
      grant_for b t x.group (used s x.group begun) (units_of r) begun in
      let some : Bool = nat_lt 0 grant.units.0 in
      record {
        told = granted_is tariff x.group (units_of r) grant some
            ∙ ap (λ (y : RatedGrant). nat_lt 0 y.units.0) (grant_same x.group (units_of r))
            ∙ ap (λ o. nat_lt 0 (grant_for b t x.group 0 (asked_units o) ledger).units.0)
            (sym asked);
        stays = stays_if tariff x.group (units_of r) grant some;
        failed = λ e. failed_if tariff x.group (units_of r) grant some e
            ∙ ap (λ (o : Option GroupTariff).
            service.Failed (if is_some o then CreditLimitReached else RatingFailed))
            (sym known);
      }

  by_request : (tariff : GroupTariff) (x : Service) (o : Option Requested) →
      tariff_at b t x.group ≡ Some tariff → x.requested ≡ o → is_some o ≡ true →
      IsGrantedAlike x (granted_if b tariff t s x.group o begun)
  by_request tariff x None known asked e = absurd (true≢false (sym e))
  by_request tariff x (Some r) known asked e = at (is_barred begun) unbarred
    where
      at : (v : Bool) → v ≡ false → IsGrantedAlike x
          (if v
          then (let y : Answered = record {
            outcome = service.Failed EndUserServiceDenied;
            after = begun;
          } in y)
          else granted_units b tariff t s x.group (units_of r) begun)
      at true k = absurd (true≢false k)
      at false k = by_unbarred tariff x r known asked

  by_tariff : (o : Option GroupTariff) (x : Service) → tariff_at b t x.group ≡ o →
      is_some x.requested ≡ true → IsGrantedAlike x (granted_by o b t s x begun)
  by_tariff None x known e = record {
    told = sym (ap (λ (o : Option GroupTariff). nat_lt 0
        (grant_with o (periods_at b t) 0
        (counter (cycle_at b x.group) x.group (cycle_at b x.group t) ledger)
        (asked_units x.requested) (funds x.group t (buckets_at (validity_of b) t ledger))
        (allowance x.group t (buckets_at (validity_of b) t ledger))).units.0) known);
    stays = λ k. refl;
    failed = λ k. ap (λ (o : Option GroupTariff). service.Failed
        (if is_some o then CreditLimitReached else RatingFailed)) (sym known);
  }
  by_tariff (Some tariff) x known e = by_request tariff x x.requested known refl e

  of_service : (x : Service) → is_some x.requested ≡ true →
      IsGrantedAlike x (granted b t s x begun)
  of_service x e = by_tariff (tariff_at b t x.group) x refl e

  -- ---- all of them

  abbrev grants : ServiceAnswer → Bool
  grants x = is_granted x.outcome

  any_same : (services : List Service) → list_all (λ x. is_some x.requested && is_none x.used)
      services ≡ true →
      any_grants b t ledger services ≡ list_any grants (grant_answers b t s services begun)
  any_same [] asks = refl
  any_same (x ∷ xs) asks =
      at (is_granted (granted b t s x begun).outcome) refl
      (any_same xs (and_parts (is_some x.requested && is_none x.used) _ asks).1)
    where
      one : IsGrantedAlike x (granted b t s x begun)
      one = of_service x
          (and_parts (is_some x.requested) (is_none x.used)
          (and_parts (is_some x.requested && is_none x.used) _ asks).0).0

      rest : Ledger → Bool
      rest l = list_any grants (grant_answers b t s xs l)

      at : (v : Bool) → is_granted (granted b t s x begun).outcome ≡ v →
          any_grants b t ledger xs ≡ list_any grants (grant_answers b t s xs begun) →
          (grants_new b t ledger x || any_grants b t ledger xs)
          ≡ (is_granted (granted b t s x begun).outcome || rest (granted b t s x begun).after)
      at true e more =
          ap (λ y. y || any_grants b t ledger xs) (sym one.told ∙ e)
          ∙ sym (ap (λ y. y || rest (granted b t s x begun).after) e)
      at false e more =
          ap (λ y. y || any_grants b t ledger xs) (sym one.told ∙ e)
          ∙ more
          ∙ ap rest (sym (one.stays e))
          ∙ sym (ap (λ y. y || rest (granted b t s x begun).after) e)

  first_denied : (services : List Service) →
      list_all (λ x. is_some x.requested && is_none x.used) services ≡ true →
      any_grants b t ledger services ≡ false →
      IsFirstDenial (first_denial (book_at b t) services) (grant_answers b t s services begun)
  first_denied [] asks e = tt
  first_denied (x ∷ xs) asks e =
      let one : IsGrantedAlike x (granted b t s x begun) = of_service x
      (and_parts (is_some x.requested) (is_none x.used)
      (and_parts (is_some x.requested && is_none x.used) _ asks).0).0 in
      one.failed (one.told
      ∙ (or_parts (grants_new b t ledger x) (any_grants b t ledger xs) e).0)

-- rule: initial.opened-by-grants
pub opened_by_grants : SessionsOpenByGrants
opened_by_grants b a list t s n services first fresh unbarred =
    let ledger : Ledger = (history b a list).ledger in
    let sound : IsSoundHistory b _ ledger =
    kept_history b (IsSoundHistory b) (keeps_sound b) (sound_none b) a list in
    let asks : list_all (λ (x : Service). is_some x.requested && is_none x.used) services ≡ true =
    (and_parts (nat_le 1 (length services) && nat_le (length services) 16
    && groups_differ services) _ first).1 in
    record {
      opens = any_same b t s n ledger sound.sound fresh (new_has_no_groups b a list s fresh)
          unbarred services asks;
      denied = first_denied b t s n ledger sound.sound fresh (new_has_no_groups b a list s fresh)
          unbarred services asks;
    }
