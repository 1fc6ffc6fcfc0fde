-- What rulings come to on each ledger.
use Rattle.std.proofs.Common.{◌≡◌, ℕ, Bool, true, false, List, [], ◌∷◌, ◌++◌, refl, sym, ap, ◌∙◌}
use Rattle.std.proofs.Common.{subst, Option, Some, None}
use Rattle.std.specs.Prelude.{if◌then◌else◌, nat_lt, Result, Ok, Err, IfOk}
use Rattle.std.proofs.lemmas.List.{append-nil}
use Rattle.commands.specs.declared.service.Service.{Service}
use Rattle.commands.specs.declared.service.Requested.{Requested}
use Rattle.commands.specs.declared.answer.Outcome.{Outcome}
use Rattle.commands.specs.declared.answer.Outcome.TheVariants.{Services, Failed}
use Rattle.commands.specs.declared.answer.ServiceAnswer.{ServiceAnswer}
use Rattle.commands.specs.declared.answer.ServiceFailure.TheVariants.{EndUserServiceDenied}
use Rattle.commands.specs.declared.answer.ServiceFailure.TheVariants.{CreditLimitReached}
use Rattle.commands.specs.declared.answer.ServiceOutcome.TheVariants as service
use Rattle.tariffs.specs.Tariffs.{GroupTariff}
use Rattle.rating.specs.declared.grant.Grant.{Grant}
use Rattle.shelves.specs.Shelves.{Shelf, book_at}
use Rattle.ledger.specs.declared.charge.ChargeRow.{ChargeRow}
use Rattle.ledger.specs.Ledger.{Ledger, is_barred, used}
use Rattle.ledger.specs.Pricing.{tariff_of}
use Rattle.ledger.specs.Requests.{touched, closed}
use Rattle.ledger.specs.Reservation.{reserved, grant_for, held_due}
use Rattle.ledger.specs.Charges.{charge_rows}
use Rattle.reserving.specs.Rows.{AccountRows}
use Rattle.reserving.specs.Left.{LeftRows, NotLeft, IsWith}
use Rattle.reserving.proofs.ChargeRows.{charge_rows-touched}
use Rattle.reserving.proofs.ChargeRows.{charge_rows-closed, charge_rows-reserved}
use Rattle.decisions.specs.Decisions.{Decision, accepted, told, settled_touched}
use Rattle.decisions.specs.Services.{settled_services, settled_answers, Answered, granted}
use Rattle.decisions.specs.Services.{grant_answers, after_grants, any_grants}
use Rattle.decisions.specs.Parts.{grant_answer, granted_with, granted_units, granted_unless_barred}
use Rattle.decisions.specs.Parts.{granted_if, granted_by, opened, updated, ended}
use Rattle.decisions.specs.declared.ruling.Ruling.{Ruling}
use Rattle.decisions.specs.Follows.{Always, IsNew, Agrees, Follows, StandsAt, IsRuledBy, Settles}
use Rattle.decisions.specs.Follows.{AreSettled, GrantsAll}

-- ---- any ruling

-- the ruling that an answer describes
pub follows_by : {asked : Ledger → LeftRows → Type 0} {decision : Ledger →
    Decision} {t : ℕ} {old new : AccountRows} {o p : Outcome} {a b : Bool} {c d : List ChargeRow} →
    o ≡ p → a ≡ b → c ≡ d →
    Follows asked decision t old new p b d → Follows asked decision t old new o a c
follows_by {asked} {decision} {t} {old} {new} {o} {p} {a} {b} {c} {d} eo ea ec f =
    subst (λ x. Follows asked decision t old new x a c) (sym eo)
    (subst (λ x. Follows asked decision t old new p x c) (sym ea)
    (subst (λ x. Follows asked decision t old new p b x) (sym ec) f))

-- the same decision on each ledger, and what one premise asks another does
pub follows_as : {p : Ledger → LeftRows →
    Type 0} {t : ℕ} {old new : AccountRows} {o : Outcome} {a : Bool} {c : List ChargeRow}
    (q : Ledger → LeftRows → Type 0) (d e : Ledger → Decision) →
    ((ledger : Ledger) (left : LeftRows) → q ledger left → IsWith ledger left t old →
    p ledger left) → ((ledger : Ledger) (left : LeftRows) → q ledger left →
    IsWith ledger left t old → e ledger ≡ d ledger) →
    Follows p d t old new o a c → Follows q e t old new o a c
follows_as {p} {t} {old} {new} {o} {a} {c} q d e gives same f =
    λ ledger left asked h. subst (λ x. Agrees o a c x ledger left t new)
    (sym (same ledger left asked h)) (f ledger left (gives ledger left asked h) h)

-- an answer that changes nothing
pub follows_told : (asked : Ledger → LeftRows → Type 0) (t : ℕ) (old : AccountRows) (o : Outcome)
    (d : Ledger → Decision) →
    ((ledger : Ledger) (left : LeftRows) → asked ledger left → IsWith ledger left t old →
    d ledger ≡ told o ledger) →
    Follows asked d t old old o false []
follows_told asked t old o d same = λ ledger left a h.
    subst (λ x. Agrees o false [] x ledger left t old) (sym (same ledger left a h)) (record {
      same = refl;
      acceptance = refl;
      rows = h;
      written = sym (append-nil (charge_rows ledger));
    })

-- ---- where a ruling leaves the account

not_refused : {b : Bool} → b ≡ true → b ≡ false → ⊥
not_refused is refused = let both : true ≡ false = sym is ∙ refused in cc

stands_accepted : (t : ℕ) (old new : AccountRows) (r : Ruling) → r.accepted ≡ true → new.as_of ≡ t →
    StandsAt t old new r
stands_accepted t old new r is at = record {
  moment = at ∙ ap (λ b. if b then t else old.as_of) (sym is);
  same = λ refused. absurd (not_refused is refused);
  unwritten = λ refused. absurd (not_refused is refused);
}

stands_told : (t : ℕ) (old : AccountRows) (r : Ruling) → r.accepted ≡ false → r.charges.items ≡ [] →
    StandsAt t old old r
stands_told t old r is none = record {
  moment = ap (λ b. if b then t else old.as_of) (sym is);
  same = λ _. refl;
  unwritten = λ _. none;
}

-- a request that is accepted
-- rule: initial
pub ruled_accepted : (asked : Ledger → LeftRows → Type 0) (decision : Ledger → Decision) (t : ℕ)
    (old new : AccountRows) (o : Outcome) (c : List ChargeRow) (r : Ruling) → r.outcome ≡ o →
    r.accepted ≡ true → r.charges.items ≡ c →
    new.as_of ≡ t → Follows asked decision t old new o true c → IsRuledBy asked decision t old new r
ruled_accepted asked decision t old new o c r outcome is charges at f = record {
  follows = follows_by {asked = asked} {decision = decision} outcome is charges f;
  stands = stands_accepted t old new r is at;
}

-- an answer that changes nothing
-- rule: decision-order, session-refused
pub ruled_told : (asked : Ledger → LeftRows → Type 0) (decision : Ledger → Decision) (t : ℕ)
    (old : AccountRows) (o : Outcome) (r : Ruling) → r.outcome ≡ o → r.accepted ≡ false →
    r.charges.items ≡ [] →
    ((ledger : Ledger) (left : LeftRows) → asked ledger left → IsWith ledger left t old →
    decision ledger ≡ told o ledger) → IsRuledBy asked decision t old old r
ruled_told asked decision t old o r outcome is charges same = record {
  follows = follows_by {asked = asked} {decision = decision} outcome is charges
      (follows_told asked t old o decision same);
  stands = stands_told t old r is charges;
}

-- the same ruling by another decision, from another premise
-- rule: decision-order, session-refused
pub ruled_as : (p q : Ledger → LeftRows → Type 0) (d e : Ledger → Decision) (t : ℕ)
    (old new : AccountRows) (r : Ruling) →
    ((ledger : Ledger) (left : LeftRows) → q ledger left → IsWith ledger left t old →
    p ledger left) → ((ledger : Ledger) (left : LeftRows) → q ledger left →
    IsWith ledger left t old → e ledger ≡ d ledger) →
    IsRuledBy p d t old new r → IsRuledBy q e t old new r
ruled_as p q d e t old new r gives same is =
    record { follows = follows_as q d e gives same is.follows; stands = is.stands }

-- the same of a ruling that may be a fault
pub ruled_ok : {E : Type 0} (p q : Ledger → LeftRows → Type 0) (d e : Ledger → Decision) (t : ℕ)
    (old new : AccountRows) (result : Result Ruling E) →
    ((ledger : Ledger) (left : LeftRows) → q ledger left → IsWith ledger left t old →
    p ledger left) → ((ledger : Ledger) (left : LeftRows) → q ledger left →
    IsWith ledger left t old → e ledger ≡ d ledger) →
    IfOk result (IsRuledBy p d t old new) → IfOk result (IsRuledBy q e t old new)
ruled_ok p q d e t old new (Ok r) gives same is = ruled_as p q d e t old new r gives same is
ruled_ok p q d e t old new (Err fault) gives same is = tt

-- the ruling on a session's request, of which it gives the decision by other values than the call
pub ruled_asked : {E : Type 0} (result : Result Ruling E) (asked : Ledger → LeftRows → Type 0)
    (d : ℕ → List ℕ → ℕ → List Service → Ledger → Decision) (e : Ledger → Decision)
    (old new : AccountRows) (t u : ℕ) (s v : List ℕ) (m n : ℕ) (xs ys : List Service) →
    t ≡ u → s ≡ v → m ≡ n → xs ≡ ys → ((ledger : Ledger) → e ledger ≡ d u v n ys ledger) →
    IfOk result (IsRuledBy Always (d t s m xs) t old new) →
    IfOk result (IsRuledBy asked e u old new)
ruled_asked result asked d e old new t u s v m n xs ys at session number services same is =
    ruled_ok Always asked (d u v n ys) e u old new result (λ ledger left a h. tt)
    (λ ledger left a h. same ledger)
    (subst (λ x. IfOk result (IsRuledBy Always (d x v n ys) x old new)) at
    (subst (λ x. IfOk result (IsRuledBy Always (d t x n ys) t old new)) session
    (subst (λ x. IfOk result (IsRuledBy Always (d t s x ys) t old new)) number
    (subst (λ x. IfOk result (IsRuledBy Always (d t s m x) t old new)) services is))))

pub ruled_if : {E : Type 0} (asked : Ledger → LeftRows → Type 0) (decision : Ledger → Decision)
    (t : ℕ) (old new : AccountRows) (o : Outcome) (c : List ChargeRow) (result : Result Ruling E) →
    IfOk result (λ r. r.outcome ≡ o) → IfOk result (λ r. r.accepted ≡ true) →
    IfOk result (λ r. r.charges.items ≡ c) → new.as_of ≡ t →
    Follows asked decision t old new o true c → IfOk result (IsRuledBy asked decision t old new)
ruled_if asked decision t old new o c (Ok r) outcome is charges at f =
    ruled_accepted asked decision t old new o c r outcome is charges at f
ruled_if asked decision t old new o c (Err fault) outcome is charges at f = tt

-- a ledger without a new charge
pub uncharged : (after ledger : Ledger) → charge_rows after ≡ charge_rows ledger →
    charge_rows after ≡ charge_rows ledger ++ []
uncharged after ledger same = same ∙ sym (append-nil (charge_rows ledger))

-- ---- grants make no charge

with_charges : (b : Shelf) (tariff : GroupTariff) (t : ℕ) (s : List ℕ) (g : ℕ) (asked : Option ℕ)
    (grant : Grant) (ledger : Ledger) →
    charge_rows (granted_with b tariff t s g asked grant ledger).after ≡ charge_rows ledger
with_charges b tariff t s g asked grant ledger = at (nat_lt 0 grant.units.0)
  where
    some : Answered
    some = record {
      outcome = grant_answer b tariff t grant.units.0 asked;
      after = reserved b t s g grant.units.0 (held_due grant) ledger;
    }

    none : Answered
    none = record { outcome = service.Failed CreditLimitReached; after = ledger }

    at : (c : Bool) → charge_rows (if c then some else none).after ≡ charge_rows ledger
    at true = charge_rows-reserved b t s g grant.units.0 (held_due grant) ledger
    at false = refl

unless_charges : (b : Shelf) (tariff : GroupTariff) (t : ℕ) (s : List ℕ) (g : ℕ) (asked : Option ℕ)
    (ledger : Ledger) → charge_rows (granted_unless_barred b tariff t s g asked ledger).after ≡
    charge_rows ledger
unless_charges b tariff t s g asked ledger = at (is_barred ledger)
  where
    none : Answered
    none = record { outcome = service.Failed EndUserServiceDenied; after = ledger }

    at : (c : Bool) → charge_rows
        (if c then none else granted_units b tariff t s g asked ledger).after ≡ charge_rows ledger
    at true = refl
    at false = with_charges b tariff t s g asked (grant_for b t g (used s g ledger) asked ledger)
        ledger

if_charges : (b : Shelf) (tariff : GroupTariff) (t : ℕ) (s : List ℕ) (g : ℕ) (o : Option Requested)
    (ledger : Ledger) → charge_rows (granted_if b tariff t s g o ledger).after ≡ charge_rows ledger
if_charges b tariff t s g None ledger = refl
if_charges b tariff t s g (Some requested) ledger = unless_charges b tariff t s g _ ledger

by_charges : (o : Option GroupTariff) (b : Shelf) (t : ℕ) (s : List ℕ) (x : Service)
    (ledger : Ledger) → charge_rows (granted_by o b t s x ledger).after ≡ charge_rows ledger
by_charges None b t s x ledger = refl
by_charges (Some tariff) b t s x ledger = if_charges b tariff t s x.group x.requested ledger

pub grants_charges : (b : Shelf) (t : ℕ) (s : List ℕ) (services : List Service) (ledger : Ledger) →
    charge_rows (after_grants b t s services ledger) ≡ charge_rows ledger
grants_charges b t s [] ledger = refl
grants_charges b t s (x ∷ xs) ledger = grants_charges b t s xs (granted b t s x ledger).after
    ∙ by_charges (tariff_of (book_at b t) x.group) b t s x ledger

-- ---- sessions

-- a session that is opened
-- rule: initial
pub follows_opened : (old new : AccountRows) (t : ℕ) (s : List ℕ) (n : ℕ) (services : List Service)
    (answers : List ServiceAnswer) →
    ((ledger : Ledger) (left : LeftRows) → IsWith ledger left t old →
    any_grants old.shelf t ledger services ≡ true) →
    ((ledger : Ledger) (left : LeftRows) → NotLeft s left → IsWith ledger left t old →
    GrantsAll answers old.shelf t s services (touched t s n ledger) left new) →
    Follows (IsNew s) (opened old.shelf t s n services) t old new (Services answers) true []
follows_opened old new t s n services answers some grants = λ ledger left asked h.
    let all : GrantsAll answers old.shelf t s services (touched t s n ledger) left new =
    grants ledger left asked h in
    let granted : Decision = accepted
    (Services (grant_answers old.shelf t s services (touched t s n ledger)))
    (after_grants old.shelf t s services (touched t s n ledger)) in
    let own : Agrees (Services answers) true [] granted ledger left t new = record {
      same = ap Services all.same;
      acceptance = refl;
      rows = all.rows;
      written = uncharged (after_grants old.shelf t s services (touched t s n ledger)) ledger
          (grants_charges old.shelf t s services (touched t s n ledger)
          ∙ charge_rows-touched t s n ledger);
    } in
    subst (λ x. Agrees (Services answers) true [] x ledger left t new)
    (sym (rw (some ledger left h) refl)) own

-- an update whose services are settled
-- rule: update
pub follows_updated : (old middle new : AccountRows) (t : ℕ) (s : List ℕ) (n : ℕ)
    (services : List Service) (answers : List ServiceAnswer) (charges : List ChargeRow) →
    middle.shelf ≡ old.shelf →
    Settles charges old middle t s services →
    ((ledger : Ledger) (left : LeftRows) → IsWith ledger left t middle →
    GrantsAll answers middle.shelf t s services (touched t s n ledger) left new) →
    Follows Always (updated old.shelf t s n services) t old new (Services answers) true charges
follows_updated old middle new t s n services answers charges e settles grants =
    λ ledger left asked h.
    let settled : AreSettled charges old.shelf t s services ledger left middle =
    settles ledger left h in
    let own : Ledger = settled_touched old.shelf t s n services ledger in
    let all : GrantsAll answers old.shelf t s services own left new =
    subst (λ b. GrantsAll answers b t s services own left new) e
    (grants (settled_services old.shelf t s services ledger) left settled.rows) in
    record {
      same = ap Services all.same;
      acceptance = refl;
      rows = all.rows;
      written = grants_charges old.shelf t s services own
          ∙ charge_rows-touched t s n (settled_services old.shelf t s services ledger)
          ∙ settled.written;
    }

-- a termination whose services are settled
-- rule: termination
pub follows_ended : (old middle new : AccountRows) (t : ℕ) (s : List ℕ) (n : ℕ)
    (services : List Service) (answers : List ServiceAnswer) (charges : List ChargeRow) →
    answers ≡ settled_answers (book_at old.shelf t) services →
    Settles charges old middle t s services →
    ((ledger : Ledger) (left : LeftRows) → IsWith ledger left t middle →
    IsWith (closed t s (touched t s n ledger)) left t new) →
    Follows Always (ended old.shelf t s n services) t old new (Services answers) true charges
follows_ended old middle new t s n services answers charges same settles ends =
    λ ledger left asked h.
    let settled : AreSettled charges old.shelf t s services ledger left middle =
    settles ledger left h in
    let own : Ledger = settled_services old.shelf t s services ledger in
    record {
      same = ap Services same;
      acceptance = refl;
      rows = ends own left settled.rows;
      written = charge_rows-closed t s (touched t s n own) ∙ charge_rows-touched t s n own
          ∙ settled.written;
    }
