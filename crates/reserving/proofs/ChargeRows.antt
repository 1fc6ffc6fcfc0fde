-- The charge rows of a ledger with more facts: a report and a debit add one each, and nothing else
-- adds any.
use Rattle.std.proofs.Common.{◌≡◌, ℕ, ◌+◌, ◌-◌, ◌≤◌, false, List, [], ◌∷◌, ◌++◌, refl, sym}
use Rattle.std.proofs.Common.{ap, ◌∙◌, arith, Option}
use Rattle.std.proofs.lemmas.Bool.Decides.{nat_tests}
use Rattle.std.proofs.lemmas.List.{append-nil}
use Rattle.units.specs.declared.blocks.UsedPart.{UsedPart}
use Rattle.shelves.specs.Shelves.{Shelf}
use Rattle.buckets.specs.declared.holds.HeldAmount.{HeldAmount}
use Rattle.buckets.specs.Row.{BucketRow}
use Rattle.buckets.specs.Share.{parts}
use Rattle.buckets.specs.Holding.{paid, uncollected, holds_of}
use Rattle.ledger.specs.declared.charge.ChargeRow.{ChargeRow}
use Rattle.reserving.specs.declared.settle.Settled.{Settled}
use Rattle.ledger.specs.Ledger.{Ledger, next_charge}
use Rattle.ledger.specs.Parts.{uses_in}
use Rattle.ledger.specs.Ledger.Fact.{Grant, End, Use}
use Rattle.ledger.specs.Charges.{charge_of, charge_rows}
use Rattle.ledger.specs.Requests.{recorded, touched, closed, credited}
use Rattle.ledger.specs.Pricing.{validity_of}
use Rattle.ledger.specs.Balance.{buckets_at, holds_at}
use Rattle.rating.specs.declared.report.Rated.{Rated}
use Rattle.buckets.specs.declared.kind.BucketKind.{BucketKind}
use Rattle.buckets.specs.declared.kind.Due.{Due}
use Rattle.ledger.specs.Settlement.{due_of, use_of, reported, report_price, charge_facts, settled}
use Rattle.ledger.specs.Settlement.{settled_by, missing, passes}
use Rattle.ledger.specs.Reservation.{grant_at, hold_facts, reserved}
use Rattle.ledger.specs.Debiting.{rest_price, charged_use, debited}
use Rattle.reserving.specs.Results.{IsAnswered, IsSettlementOf, IsDebitOf}
use Rattle.ledger.specs.Lists.{EachIn}
use Rattle.reserving.specs.Rows.{AccountRows}
use Rattle.ledger.proofs.Fronts.{total-front, each_charge, each_hold}

-- ---- facts that are no use

charge_rows-front : (front ledger : Ledger) → EachIn (λ d. (n : ℕ) → charge_of n d ≡ []) front →
    charge_rows (front ++ ledger) ≡ charge_rows ledger
charge_rows-front [] ledger h = refl
charge_rows-front (d ∷ ds) ledger h =
    (λ i. charge_rows-front ds ledger h.1 i ++ h.0 (next_charge (ds ++ ledger)) i)
    ∙ append-nil (charge_rows ledger)

pub charge_rows-recorded : (t : ℕ) (s : List ℕ) (n : ℕ) (ledger : Ledger) →
    charge_rows (recorded t s n ledger) ≡ charge_rows ledger
charge_rows-recorded t s n ledger = append-nil (charge_rows ledger)

pub charge_rows-touched : (t : ℕ) (s : List ℕ) (n : ℕ) (ledger : Ledger) →
    charge_rows (touched t s n ledger) ≡ charge_rows ledger
charge_rows-touched t s n ledger =
    append-nil (charge_rows ledger ++ []) ∙ append-nil (charge_rows ledger)

pub charge_rows-closed : (t : ℕ) (s : List ℕ) (ledger : Ledger) →
    charge_rows (closed t s ledger) ≡ charge_rows ledger
charge_rows-closed t s ledger = append-nil (charge_rows ledger)

pub charge_rows-credited : (t : ℕ) (kind : BucketKind) (from until : ℕ) (scope : Option ℕ)
    (amount : ℕ) (ledger : Ledger) →
    charge_rows (credited t kind from until scope amount ledger) ≡ charge_rows ledger
charge_rows-credited t kind from until scope amount ledger = append-nil (charge_rows ledger)

-- a reservation ends
pub charge_rows-ended : (t : ℕ) (s : List ℕ) (g : ℕ) (ledger : Ledger) →
    charge_rows (record { at = t; fact = End s g } ∷ ledger) ≡ charge_rows ledger
charge_rows-ended t s g ledger = append-nil (charge_rows ledger)

pub charge_rows-reserved : (b : Shelf) (t : ℕ) (s : List ℕ) (g units : ℕ) (due : Due)
    (ledger : Ledger) →
    charge_rows (reserved b t s g units due ledger) ≡ charge_rows ledger
charge_rows-reserved b t s g units due ledger =
    let hs : List HeldAmount = holds_of g t due (buckets_at (validity_of b) t ledger) in
    let before : Ledger =
    record { at = t; fact = Grant (grant_at b t s g units ledger) } ∷ ledger in
    charge_rows-front (hold_facts t s g hs) before (each_hold _ t s g hs (λ x n. refl))
    ∙ append-nil (charge_rows ledger)

-- ---- a use

-- the row of a use
abbrev pub charge_row : (n t : ℕ) (s : List ℕ) (g blocks : ℕ) (due : Due) (uncollected : ℕ) →
    ChargeRow
charge_row n t s g blocks due uncollected = record {
  number = n;
  moment = t;
  session = s;
  group = g;
  blocks = record { 0 = blocks };
  covered = record { 0 = due.blocks };
  rated = record { 0 = due.money };
  collected = record { 0 = due.money - uncollected };
  uncollected = record { 0 = uncollected };
}

-- a use in front of what the buckets paid for it
used_row : (t : ℕ) (hs : List HeldAmount) (s : List ℕ) (g units blocks : ℕ) (due : Due) (left : ℕ)
    (ledger : Ledger) →
    charge_rows
    (record { at = t; fact = Use (use_of s g units blocks due left) }
    ∷ charge_facts t hs ++ ledger)
    ≡ charge_rows ledger ++ charge_row (next_charge ledger) t s g blocks due left ∷ []
used_row t hs s g units blocks due left ledger =
    let rows : charge_rows (charge_facts t hs ++ ledger) ≡ charge_rows ledger =
    charge_rows-front (charge_facts t hs) ledger (each_charge _ t hs (λ k n m. refl)) in
    let number : next_charge (charge_facts t hs ++ ledger) ≡ next_charge ledger =
    ap (λ n. n + 1)
    (total-front (λ d. uses_in d.fact) (charge_facts t hs) ledger
    (each_charge _ t hs (λ k n. refl))) in
    λ i. rows i ++ charge_row (number i) t s g blocks due left ∷ []

pub charge_rows-settled : (v : ℕ → ℕ) (t : ℕ) (s : List ℕ) (g units blocks : ℕ)
    (due : Due) (ledger : Ledger) →
    charge_rows (settled v t s g units blocks due ledger)
    ≡ charge_rows ledger
    ++ charge_row (next_charge ledger) t s g blocks due
    (uncollected (holds_at v t s g ledger) g t due.money (buckets_at v t ledger)) ∷ []
charge_rows-settled v t s g units blocks due ledger =
    let rows : List BucketRow = buckets_at v t ledger in
    let holds : List HeldAmount = holds_at v t s g ledger in
    let hs : List HeldAmount = parts (paid holds g t due rows) rows in
    append-nil
    (charge_rows
    (record {
      at = t;
      fact = Use (use_of s g units blocks due (uncollected holds g t due.money rows));
    }
    ∷ charge_facts t hs ++ ledger))
    ∙ used_row t hs s g units blocks due (uncollected holds g t due.money rows) ledger

pub charge_rows-charged_use : (v : ℕ → ℕ) (t : ℕ) (s : List ℕ) (g units blocks : ℕ)
    (due : Due) (ledger : Ledger) →
    charge_rows (charged_use v t s g units blocks due ledger)
    ≡ charge_rows ledger ++ charge_row (next_charge ledger) t s g blocks due 0 ∷ []
charge_rows-charged_use v t s g units blocks due ledger =
    let rows : List BucketRow = buckets_at v t ledger in
    used_row t (parts (paid [] g t due rows) rows) s g units blocks due 0 ledger

-- ---- reports

-- a group that is named without a report is charged nothing
pub charge_rows-unreported : (b : Shelf) (t : ℕ) (s : List ℕ) (g : ℕ) (ledger : Ledger) →
    charge_rows (settled_by b t s g [] ledger) ≡ charge_rows ledger
charge_rows-unreported b t s g ledger = charge_rows-ended t s g ledger

pub charge_rows-reported : (b : Shelf) (t : ℕ) (s : List ℕ) (g : ℕ) (p : UsedPart)
    (ps : List UsedPart) (ledger : Ledger) →
    charge_rows (settled_by b t s g (p ∷ ps) ledger)
    ≡ charge_rows ledger
    ++ charge_row (next_charge ledger) t s g (report_price b t s g (p ∷ ps) ledger).blocks
    (due_of (report_price b t s g (p ∷ ps) ledger)) (missing b t s g (p ∷ ps) ledger) ∷ []
charge_rows-reported b t s g p ps ledger =
    charge_rows-settled (validity_of b) t s g (reported (p ∷ ps))
    (report_price b t s g (p ∷ ps) ledger).blocks
    (due_of (report_price b t s g (p ∷ ps) ledger)) ledger

-- ---- the rows, with what the calls answer

-- the row of an answer
abbrev pub told_row : (n t : ℕ) (s : List ℕ) (g : ℕ) → Settled → ChargeRow
told_row n t s g x = record {
  number = n;
  moment = t;
  session = s;
  group = g;
  blocks = x.blocks;
  covered = x.covered;
  rated = x.rated;
  collected = x.collected;
  uncollected = x.uncollected;
}

told_is : (n t : ℕ) (s : List ℕ) (g blocks : ℕ) (due : Due) (left : ℕ) (x : Settled) →
    x.blocks.0 ≡ blocks → x.covered.0 ≡ due.blocks → x.rated.0 ≡ due.money →
    x.uncollected.0 ≡ left → x.collected.0 ≡ due.money - left →
    charge_row n t s g blocks due left ≡ told_row n t s g x
told_is n t s g blocks due left x eb ev er eu ec = λ i. record {
  number = n;
  moment = t;
  session = s;
  group = g;
  blocks = record { 0 = sym eb i };
  covered = record { 0 = sym ev i };
  rated = record { 0 = sym er i };
  collected = record { 0 = sym ec i };
  uncollected = record { 0 = sym eu i };
}

-- a settled report adds the row of its answer
pub charge_rows-settlement : (b : Shelf) (t n : ℕ) (s : List ℕ) (g : ℕ) (p : UsedPart)
    (ps : List UsedPart) (ledger : Ledger) (x : Settled) → n ≡ next_charge ledger →
    IsSettlementOf b t s g (p ∷ ps) ledger x →
    charge_rows (settled_by b t s g (p ∷ ps) ledger) ≡ charge_rows ledger ++ told_row n t s g x ∷ []
charge_rows-settlement b t n s g p ps ledger x number is =
    let due : Due = due_of (report_price b t s g (p ∷ ps) ledger) in
    let left : ℕ = missing b t s g (p ∷ ps) ledger in
    let collected : x.collected.0 ≡ due.money - left =
    omega (arith, x.sum, is.rated, is.uncollected) in
    charge_rows-reported b t s g p ps ledger
    ∙ (λ i. charge_rows ledger
    ++ charge_row (sym number i) t s g (report_price b t s g (p ∷ ps) ledger).blocks due left
    ∷ [])
    ∙ ap (λ r. charge_rows ledger ++ r ∷ [])
    (told_is n t s g (report_price b t s g (p ∷ ps) ledger).blocks due left x is.blocks
    is.covered is.rated is.uncollected collected)

-- so does a debit
pub charge_rows-debit : (b : Shelf) (t n : ℕ) (s : List ℕ) (g units : ℕ) (ledger : Ledger)
    (after : AccountRows) (x : Settled) → n ≡ next_charge ledger →
    IsDebitOf b t s g units ledger after x →
    charge_rows (debited b t s g units ledger) ≡ charge_rows ledger ++ told_row n t s g x ∷ []
charge_rows-debit b t n s g units ledger after x number is =
    let price : Rated = rest_price b t g units ledger in
    let answer : IsAnswered price 0 x = is.answer in
    let collected : x.collected.0 ≡ price.amount.0 - 0 =
    omega (arith, x.sum, answer.rated, answer.uncollected) in
    charge_rows-charged_use (validity_of b) t s g units price.blocks (due_of price) ledger
    ∙ (λ i. charge_rows ledger
    ++ charge_row (sym number i) t s g price.blocks (due_of price) 0 ∷ [])
    ∙ ap (λ r. charge_rows ledger ++ r ∷ [])
    (told_is n t s g price.blocks (due_of price) 0 x answer.blocks answer.covered answer.rated
    answer.uncollected collected)

-- ---- numbers

-- a charge that passes no limit has a number
pub charge-numbered : (before units count blocks charge : ℕ) →
    passes before units count blocks charge ≡ false → charge ≤ 4294967295
charge-numbered before units count blocks charge h = grind (arith, nat_tests)
