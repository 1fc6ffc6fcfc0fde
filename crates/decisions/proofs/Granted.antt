-- The answer of a service that units are reserved for.
use Rattle.std.proofs.Common.{◌≡◌, ℕ, ◌<◌, Bool, true, false, List, refl, sym, ap, ◌∙◌, subst}
use Rattle.std.proofs.Common.{Option, Some, Result, Ok, Err, arith}
use Rattle.std.specs.Prelude.{if◌then◌else◌, nat_lt, OnOk}
use Rattle.std.proofs.lemmas.Bool.Decides.{nat_tests}
use Rattle.commands.specs.declared.answer.ServiceFailure.TheVariants.{CreditLimitReached}
use Rattle.commands.specs.declared.answer.ServiceOutcome.{ServiceOutcome}
use Rattle.commands.specs.declared.answer.ServiceOutcome.TheVariants as service
use Rattle.tariffs.specs.Tariffs.{GroupTariff}
use Rattle.rating.specs.declared.grant.Grant.{Grant}
use Rattle.shelves.specs.Shelves.{Shelf, book_at}
use Rattle.commands.specs.declared.service.Service.{Service}
use Rattle.commands.specs.declared.service.Requested.{Requested}
use Rattle.ledger.specs.Ledger.{Ledger, is_barred, used}
use Rattle.ledger.specs.Pricing.{tariff_of, wanted_units, wanted_with}
use Rattle.ledger.specs.Reservation.{reserved, grant_for, held_due}
use Rattle.reserving.specs.Results.{IsGrantOf}
use Rattle.reserving.specs.Rows.{AccountRows, IsRowsOf}
use Rattle.reserving.specs.Left.{LeftRows, joined, IsBeside, IsWith}
use Rattle.decisions.specs.Services.{units_of, Answered, granted}
use Rattle.decisions.specs.Parts.{final_unit, grant_answer, granted_with, granted_units}
use Rattle.decisions.specs.Parts.{granted_unless_barred, granted_if, granted_by}
use Rattle.decisions.specs.Follows.{Grants}

at_least_one : (n : ℕ) → 0 < n → nat_lt 0 n ≡ true
at_least_one n h = grind (arith, nat_tests)

-- what is answered of these units
abbrev pub units_outcome : GroupTariff → ℕ → Option ℕ → ℕ → Bool → ServiceOutcome
units_outcome tariff given switch validity fewer =
    service.Granted (record {
      quantity = record { kind = tariff.unit; units = given };
      switch = switch;
      validity = validity;
      last = final_unit tariff fewer;
    })

grants_some : (b : Shelf) (tariff : GroupTariff) (t : ℕ) (s : List ℕ) (g : ℕ) (asked : Option ℕ)
    (grant : Grant) (ledger : Ledger) (left : LeftRows) (a : AccountRows) →
    0 < grant.units.0 → IsWith (reserved b t s g grant.units.0 (held_due grant) ledger) left t a →
    Grants (grant_answer b tariff t grant.units.0 asked)
    (granted_with b tariff t s g asked grant ledger) left t a
grants_some b tariff t s g asked grant ledger left a some rows =
    at (nat_lt 0 grant.units.0) (at_least_one grant.units.0 some)
  where
    at : (c : Bool) → c ≡ true →
        Grants (grant_answer b tariff t grant.units.0 asked)
        (if c then (let y : Answered =
        record {
          outcome = grant_answer b tariff t grant.units.0 asked;
          after = reserved b t s g grant.units.0 (held_due grant) ledger;
        } in y)
        else (let y : Answered = record {
          outcome = service.Failed CreditLimitReached;
          after = ledger;
        } in y)) left t a
    at true e = record { same = refl; rows = rows }
    at false e = absurd (let no : false ≡ true = e in cc)

-- units that are reserved are the service's grant
-- rule: final-units, service-codes
pub grants_units : (b : Shelf) (tariff : GroupTariff) (t : ℕ) (s : List ℕ) (g : ℕ)
    (asked : Option ℕ)
    (ledger : Ledger) (left : LeftRows) (a : AccountRows) (given : ℕ) (switch : Option ℕ)
    (validity : ℕ) (fewer : Bool) (outcome : ServiceOutcome) →
    Some tariff ≡ tariff_of (book_at b t) g → IsBeside left t a →
    IsGrantOf b t s g asked ledger (joined left a) given switch validity fewer →
    outcome ≡ units_outcome tariff given switch validity fewer →
    Grants outcome (granted_units b tariff t s g asked ledger) left t a
grants_units b tariff t s g asked ledger left a given switch validity fewer outcome known beside is
    same =
    let grant : Grant = grant_for b t g (used s g ledger) asked ledger in
    let final : fewer ≡ nat_lt given (wanted_units tariff asked) = is.fewer
    ∙ ap (λ o. nat_lt given (wanted_with o asked)) (sym known) in
    let answer : outcome ≡ grant_answer b tariff t grant.units.0 asked =
    same ∙ (λ i. units_outcome tariff given (is.switch i) (is.validity i) (final i))
    ∙ ap (λ n. grant_answer b tariff t n asked) is.units in
    let some : 0 < grant.units.0 = subst (λ n. 0 < n) is.units is.some in
    let rows : IsRowsOf (reserved b t s g grant.units.0 (held_due grant) ledger) (joined left a) =
    subst (λ n. IsRowsOf (reserved b t s g n (held_due grant) ledger) (joined left a))
    is.units is.rows in
    let own : IsWith (reserved b t s g grant.units.0 (held_due grant) ledger) left t a =
    record { apart = beside.apart; cycles = beside.cycles; rows = rows } in
    subst (λ o. Grants o (granted_units b tariff t s g asked ledger) left t a) (sym answer)
    (grants_some b tariff t s g asked grant ledger left a some own)

-- where nothing is granted
pub grants_nothing : (b : Shelf) (tariff : GroupTariff) (t : ℕ) (s : List ℕ) (g : ℕ)
    (asked : Option ℕ) (ledger : Ledger) (left : LeftRows) (a : AccountRows) → IsBeside left t a →
    ((grant_for b t g (used s g ledger) asked ledger).units.0 ≡ 0)
    × IsRowsOf ledger (joined left a) →
    Grants (service.Failed CreditLimitReached) (granted_units b tariff t s g asked ledger) left
    t a
grants_nothing b tariff t s g asked ledger left a beside both =
    at (nat_lt 0 (grant_for b t g (used s g ledger) asked ledger).units.0) (ap (nat_lt 0) both.0)
  where
    at : (c : Bool) → c ≡ false → Grants (service.Failed CreditLimitReached)
        (if c
        then
        (let y : Answered = record {
          outcome = grant_answer b tariff t
              (grant_for b t g (used s g ledger) asked ledger).units.0 asked;
          after =
              reserved b t s g (grant_for b t g (used s g ledger) asked ledger).units.0
              (held_due (grant_for b t g (used s g ledger) asked ledger)) ledger;
        } in y)
        else (let y : Answered = record {
          outcome = service.Failed CreditLimitReached;
          after = ledger;
        } in y)) left t a
    at true e = absurd (let wrong : true ≡ false = e in cc)
    at false e = record {
      same = refl;
      rows = record { apart = beside.apart; cycles = beside.cycles; rows = both.1 };
    }

-- a known group, of which something is asked while the account isn't barred
pub granted_is : (b : Shelf) (tariff : GroupTariff) (t : ℕ) (s : List ℕ) (x : Service)
    (requested : Requested) (asked : Option ℕ) (ledger : Ledger) →
    Some tariff ≡ tariff_of (book_at b t) x.group → x.requested ≡ Some requested →
    asked ≡ units_of requested →
    is_barred ledger ≡ false →
    granted_units b tariff t s x.group asked ledger ≡ granted b t s x ledger
granted_is b tariff t s x requested asked ledger known asks units free =
    ap (λ n. granted_units b tariff t s x.group n ledger) units
    ∙ unbarred
    ∙ ap (λ o. granted_if b tariff t s x.group o ledger) (sym asks)
    ∙ ap (λ o. granted_by o b t s x ledger) known
  where
    unbarred : granted_units b tariff t s x.group (units_of requested) ledger ≡
        granted_unless_barred b tariff t s x.group (units_of requested) ledger
    unbarred = rw free refl

-- what holds anyway holds at an answer
pub on_ok : {A E P : Type 0} (r : Result A E) → P → OnOk r P
on_ok (Ok x) h = h
on_ok (Err e) h = tt
