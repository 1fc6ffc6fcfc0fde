-- Reports and debits that are charged.
use Rattle.std.proofs.Common.{◌≡◌, ℕ, ◌≤◌, ◌<◌, Bool, true, false, List, [], ◌∷◌, ◌++◌, refl, sym}
use Rattle.std.proofs.Common.{ap, ◌∙◌, subst, length, None, ◌≢◌, arith}
use Rattle.std.specs.Prelude.{nat_lt, Result, Ok, Err}
use Rattle.std.proofs.lemmas.Bool.Decides.{nat_tests}
use Rattle.commands.specs.declared.answer.Failure.TheVariants.{UnableToComply}
use Rattle.commands.specs.declared.answer.Outcome.{Outcome}
use Rattle.commands.specs.declared.answer.Outcome.TheVariants.{Services, Refunded, Failed}
use Rattle.commands.specs.declared.answer.ServiceFailure.TheVariants.{CreditLimitReached}
use Rattle.commands.specs.declared.answer.ServiceOutcome.TheVariants as service
use Rattle.commands.specs.Refunds.{Refunded as Refund}
use Rattle.units.specs.declared.blocks.UsedPart.{UsedPart}
use Rattle.tariffs.specs.Tariffs.{GroupTariff}
use Rattle.buckets.specs.declared.kind.BucketKind.TheVariants.{Money}
use Rattle.shelves.specs.Shelves.{Shelf}
use Rattle.ledger.specs.declared.charge.ChargeRow.{ChargeRow}
use Rattle.reserving.specs.declared.settle.Settled.{Settled}
use Rattle.ledger.specs.Ledger.{Ledger}
use Rattle.ledger.specs.Settlement.{settled_by, passes_limit}
use Rattle.ledger.specs.Requests.{recorded, credited}
use Rattle.ledger.specs.Debiting.{debited, is_covered, debit_passes}
use Rattle.ledger.specs.Charges.{charge_rows}
use Rattle.reserving.specs.Results.{IsSettlementOf, IsDebitOf}
use Rattle.reserving.specs.Rows.{AccountRows, IsRowsOf}
use Rattle.reserving.specs.Left.{LeftRows, joined, NotLeft, IsBeside, IsWith}
use Rattle.reserving.proofs.ChargeRows.{told_row, charge_rows-settlement, charge_rows-debit}
use Rattle.reserving.proofs.ChargeRows.{charge_rows-recorded, charge_rows-credited}
use Rattle.decisions.specs.Decisions.{Decision, accepted, denied, told}
use Rattle.decisions.specs.Parts.{charged_if_covered, refunded}
use Rattle.decisions.specs.Follows.{IsNew, Agrees, Follows, Reports}
use Rattle.decisions.proofs.Rulings.{uncharged}

-- ---- reports

-- the row under the account's next number and the session's name
pub told_with : {m n : ℕ} {s x : List ℕ} (t g : ℕ) (settled : Settled) → m ≡ n → x ≡ s →
    told_row m t x g settled ≡ told_row n t s g settled
told_with t g settled number name = λ i. told_row (number i) t (name i) g settled

-- a report that is settled makes its charge
pub reports_settled : (old new : AccountRows) (t : ℕ) (s : List ℕ) (g : ℕ) (parts : List UsedPart)
    (settled : Settled) (row : ChargeRow) → length parts ≢ 0 →
    row ≡ told_row old.next_charge t s g settled →
    ((ledger : Ledger) (left : LeftRows) → IsWith ledger left t old →
    passes_limit old.shelf t s g parts ledger ≡ false) →
    ((ledger : Ledger) (left : LeftRows) → IsWith ledger left t old →
    IsWith (settled_by old.shelf t s g parts ledger) left t new) →
    ((ledger : Ledger) (left : LeftRows) → IsWith ledger left t old →
    IsSettlementOf old.shelf t s g parts ledger settled) → Reports row old new t s g parts
reports_settled old new t s g [] settled row some is within after told = absurd (some refl)
reports_settled old new t s g (p ∷ ps) settled row some is within after told = λ ledger left h.
    record {
      within = within ledger left h;
      rows = after ledger left h;
      written = charge_rows-settlement old.shelf t old.next_charge s g p ps ledger settled
          h.rows.next_charge (told ledger left h) ∙ ap (λ r. charge_rows ledger ++ r ∷ []) (sym is);
    }

-- ---- debits

with_beside : (ledger : Ledger) (left : LeftRows) (t : ℕ) (a : AccountRows) → IsBeside left t a →
    IsRowsOf ledger (joined left a) → IsWith ledger left t a
with_beside ledger left t a beside rows =
    record { apart = beside.apart; cycles = beside.cycles; rows = rows }

-- what units that were charged are answered
abbrev pub debit_outcome : GroupTariff → ℕ → ℕ → Outcome
debit_outcome tariff g units =
    Services (record {
      group = g;
      outcome = service.Debited (record { kind = tariff.unit; units = units });
    } ∷ [])

-- an event whose price is covered
pub follows_charged : (old middle new : AccountRows) (tariff : GroupTariff) (t : ℕ) (s : List ℕ)
    (n g units : ℕ) (settled : Settled) (row : ChargeRow) →
    row ≡ told_row old.next_charge t s g settled →
    ((ledger : Ledger) (left : LeftRows) → NotLeft s left → IsWith ledger left t old →
    IsBeside left t middle × IsDebitOf old.shelf t s g units ledger
    (joined left middle) settled) →
    ((ledger : Ledger) (left : LeftRows) → NotLeft s left → IsWith ledger left t middle →
    IsWith (recorded t s n ledger) left t new) →
    Follows (IsNew s) (charged_if_covered old.shelf tariff t s n g units) t old new
    (debit_outcome tariff g units) true (row ∷ [])
follows_charged old middle new tariff t s n g units settled row is debit records =
    λ ledger left asked h.
    let beside : IsBeside left t middle = (debit ledger left asked h).0 in
    let own : IsDebitOf old.shelf t s g units ledger (joined left middle) settled =
    (debit ledger left asked h).1 in
    let after : Ledger = debited old.shelf t s g units ledger in
    let decision : Decision = accepted (debit_outcome tariff g units) (recorded t s n after) in
    let agrees : Agrees (debit_outcome tariff g units) true (row ∷ []) decision ledger left t new =
    record {
      same = refl;
      acceptance = refl;
      rows = records after left asked (with_beside after left t middle beside own.rows);
      written = charge_rows-recorded t s n after
          ∙ charge_rows-debit old.shelf t old.next_charge s g units ledger
          (joined left middle) settled h.rows.next_charge own
          ∙ ap (λ r. charge_rows ledger ++ r ∷ []) (sym is);
    } in
    let same : charged_if_covered old.shelf tariff t s n g units ledger ≡ decision =
    rw (own.covered, own.within) refl in
    subst (λ d. Agrees (debit_outcome tariff g units) true (row ∷ []) d ledger left t new)
    (sym same) agrees

-- an event whose price isn't covered
pub charge_uncovered : (b : Shelf) (tariff : GroupTariff) (t : ℕ) (s : List ℕ) (n g units : ℕ)
    (ledger : Ledger) → is_covered b t g units ledger ≡ false →
    charged_if_covered b tariff t s n g units ledger ≡ denied t s n CreditLimitReached ledger
charge_uncovered b tariff t s n g units ledger none = rw none refl

-- an event whose price is covered, and whose charge passes a limit
pub charge_passes : (b : Shelf) (tariff : GroupTariff) (t : ℕ) (s : List ℕ) (n g units : ℕ)
    (ledger : Ledger) → (is_covered b t g units ledger ≡ true)
    × (debit_passes b t s g units ledger ≡ true) →
    charged_if_covered b tariff t s n g units ledger ≡ told (Failed UnableToComply) ledger
charge_passes b tariff t s n g units ledger both = rw (both.0, both.1) refl

-- ---- refunds

one_more : (n : ℕ) → n ≤ 4294967295 → nat_lt 4294967295 n ≡ false
one_more n h = grind (arith, nat_tests)

past_at : (n : ℕ) → nat_lt 4294967295 n ≡ true → 4294967295 < n
past_at n h = grind (arith, nat_tests)

few_at : (n : ℕ) → nat_lt 4294967295 n ≡ false → n ≤ 4294967295
few_at n h = grind (arith, nat_tests)

pub at_most : (n : ℕ) → (4294967295 < n → ⊥) → n ≤ 4294967295
at_most n none = at (nat_lt 4294967295 n) refl
  where
    at : (b : Bool) → nat_lt 4294967295 n ≡ b → n ≤ 4294967295
    at true e = absurd (none (past_at n e))
    at false e = few_at n e

-- an answer is no fault
pub not_fault : {R E : Type 0} {x : R} {e : E} (r : Result R E) → r ≡ Ok x → r ≡ Err e → ⊥
not_fault {R} {E} {x} {e} r is fault = let both : Ok x ≡ Err e = sym is ∙ fault in cc

-- money that is paid back
-- rule: refund
pub follows_refunded : (old middle new : AccountRows) (t : ℕ) (s : List ℕ) (n : ℕ) (r : Refund) →
    old.next_bucket ≤ 4294967295 →
    ((ledger : Ledger) (left : LeftRows) → IsWith ledger left t old →
    IsWith (credited t Money t 4102444800 None r.micros ledger) left t middle) →
    ((ledger : Ledger) (left : LeftRows) → NotLeft s left → IsWith ledger left t middle →
    IsWith (recorded t s n ledger) left t new) →
    Follows (IsNew s) (refunded t s n r) t old new Refunded true []
follows_refunded old middle new t s n r few credits records = λ ledger left asked h.
    let after : Ledger = credited t Money t 4102444800 None r.micros ledger in
    let decision : Decision = accepted Refunded (recorded t s n after) in
    let agrees : Agrees Refunded true [] decision ledger left t new = record {
      same = refl;
      acceptance = refl;
      rows = records after left asked (credits ledger left h);
      written = uncharged (recorded t s n after) ledger
          (charge_rows-recorded t s n after
          ∙ charge_rows-credited t Money t 4102444800 None r.micros ledger);
    } in
    let same : refunded t s n r ledger ≡ decision =
    rw (ap (nat_lt 4294967295) (sym h.rows.next_bucket) ∙ one_more old.next_bucket few) refl
    in
    subst (λ d. Agrees Refunded true [] d ledger left t new) (sym same) agrees
