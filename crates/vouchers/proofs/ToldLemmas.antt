-- What a file of vouchers says, record by record.
use Rattle.std.proofs.Common.{◌≡◌, ◌+◌, ℕ, List, [], ◌∷◌, ◌++◌, length, map, Bool, true, false}
use Rattle.std.proofs.Common.{Result, Ok, Err, refl, sym, ap, ap₂, ◌∙◌, arith, true≢false, inl, inr}
use Rattle.std.proofs.Common.{if◌then◌else◌}
use Rattle.std.specs.Result.{is_ok}
use Rattle.texts.specs.Steps.{◌>>=◌}
use Rattle.vouchers.specs.declared.fault.FaultKind.{FaultKind}
use Rattle.vouchers.specs.declared.fault.FaultKind.TheVariants.{Header}
use Rattle.vouchers.specs.declared.fault.VoucherFault.{VoucherFault}
use Rattle.commands.specs.declared.command.VoucherAddition.{VoucherAddition}
use Rattle.vouchers.specs.Files.{fault_at, at_record, vouchers_from, vouchers_of}
use Rattle.vouchers.specs.Rows.{voucher_of, is_header}
use Rattle.vouchers.specs.Told.{Record, AreVouchers, IsFirstFault, IsHeaderFault, IsRecordFault}
use Rattle.vouchers.specs.Told.{all_say}

abbrev Rows : Type 0
Rows = Result (List VoucherAddition) VoucherFault

abbrev rows_or : Rows → List VoucherAddition
rows_or (Ok rows) = rows
rows_or (Err fault) = []

abbrev fault_or : Rows → VoucherFault
fault_or (Ok rows) = fault_at 0 Header
fault_or (Err fault) = fault

abbrev first_or : List (Result VoucherAddition FaultKind) → Result VoucherAddition FaultKind
first_or [] = Err Header
first_or (r ∷ rs) = r

abbrev others_of : List (Result VoucherAddition FaultKind) → List (Result VoucherAddition FaultKind)
others_of [] = []
others_of (r ∷ rs) = rs

no_rows : (fault : VoucherFault) (rows : List VoucherAddition) (r s : Rows) → r ≡ Err fault →
    s ≡ Ok rows → r ≡ s → ⊥
no_rows fault rows r s e f same = true≢false (ap is_ok (sym f ∙ sym same ∙ e))

-- one record, and then the others
abbrev both : ℕ → Result VoucherAddition FaultKind → Rows → Rows
both n r rest = at_record n r >>= λ row. rest >>= λ more. Ok (row ∷ more)

record OneRead (r : Result VoucherAddition FaultKind) (rest : Rows)
    (rows : List VoucherAddition) : Type 0 where
  row : VoucherAddition
  more : List VoucherAddition
  first : r ≡ Ok row
  others : rest ≡ Ok more
  whole : row ∷ more ≡ rows

one_read : (n : ℕ) (r : Result VoucherAddition FaultKind) (rest : Rows)
    (rows : List VoucherAddition) → both n r rest ≡ Ok rows → OneRead r rest rows
one_read n (Ok row) (Ok more) rows e =
    record { row = row; more = more; first = refl; others = refl; whole = ap rows_or e }
one_read n (Ok row) (Err fault) rows e =
    absurd (no_rows fault rows (Err fault) (Ok rows) refl refl e)
one_read n (Err kind) rest rows e =
    absurd (no_rows (fault_at n kind) rows (Err (fault_at n kind)) (Ok rows) refl refl e)

from_ok : (n : ℕ) (file : List Record) (rows : List VoucherAddition) →
    vouchers_from n file ≡ Ok rows → map voucher_of file ≡ all_say rows
unfolding vouchers_from
from_ok n [] rows e = ap all_say (ap rows_or e)
from_ok n (fields ∷ more) rows e =
    let p = one_read n (voucher_of fields) (vouchers_from (n + 1) more) rows e in
    ap₂ (λ (r : Result VoucherAddition FaultKind) rs. r ∷ rs) p.first
    (from_ok (n + 1) more p.more p.others) ∙ ap all_say p.whole

from_rows : (n : ℕ) (file : List Record) (rows : List VoucherAddition) →
    map voucher_of file ≡ all_say rows → vouchers_from n file ≡ Ok rows
unfolding vouchers_from
from_rows n [] [] e = refl
from_rows n [] (row ∷ rows) e = absurd (omega (arith, ap length e))
from_rows n (fields ∷ more) [] e = absurd (omega (arith, ap length e))
from_rows n (fields ∷ more) (row ∷ rows) e =
    let first : voucher_of fields ≡ Ok row = ap first_or e in
    let others : vouchers_from (n + 1) more ≡ Ok rows =
    from_rows (n + 1) more rows (ap others_of e) in
    rw (first, others) refl

-- ---- the first fault among records that are numbered from n on

record Fails (n : ℕ) (file : List Record) (fault : VoucherFault) : Type 0 where
  before : List Record
  rows : List VoucherAddition
  bad : Record
  after : List Record
  parts : file ≡ before ++ bad ∷ after
  vouchers : map voucher_of before ≡ all_say rows
  kind_is : voucher_of bad ≡ Err fault.kind
  number_is : fault.record_number ≡ n + length before

fails_here : (n : ℕ) (fields : Record) (more : List Record) (fault : VoucherFault)
    (kind : FaultKind)
    → voucher_of fields ≡ Err kind → fault_at n kind ≡ fault → Fails n (fields ∷ more) fault
fails_here n fields more fault kind is told = record {
  before = [];
  rows = [];
  bad = fields;
  after = more;
  parts = refl;
  vouchers = refl;
  kind_is = is ∙ ap (λ (f : VoucherFault). Err f.kind) told;
  number_is = omega (arith, ap (λ (f : VoucherFault). f.record_number) told);
}

fails_later : (n : ℕ) (fields : Record) (more : List Record) (fault : VoucherFault)
    (row : VoucherAddition)
    → voucher_of fields ≡ Ok row → Fails (n + 1) more fault → Fails n (fields ∷ more) fault
fails_later n fields more fault row is h = record {
  before = fields ∷ h.before;
  rows = row ∷ h.rows;
  bad = h.bad;
  after = h.after;
  parts = ap (λ l. fields ∷ l) h.parts;
  vouchers = ap₂ (λ (r : Result VoucherAddition FaultKind) rs. r ∷ rs) is h.vouchers;
  kind_is = h.kind_is;
  number_is = omega (arith, h.number_is);
}

fails_by : (n : ℕ) (fields : Record) (more : List Record) (fault : VoucherFault)
    (r : Result VoucherAddition FaultKind) (rest : Rows)
    → voucher_of fields ≡ r → both n r rest ≡ Err fault
    → (rest ≡ Err fault → Fails (n + 1) more fault) → Fails n (fields ∷ more) fault
fails_by n fields more fault (Ok row) (Ok rows) is e later =
    absurd (no_rows fault (row ∷ rows) (Err fault) (Ok (row ∷ rows)) refl refl (sym e))
fails_by n fields more fault (Ok row) (Err other) is e later =
    fails_later n fields more fault row is (later e)
fails_by n fields more fault (Err kind) rest is e later =
    fails_here n fields more fault kind is (ap fault_or e)

from_err : (n : ℕ) (file : List Record) (fault : VoucherFault) → vouchers_from n file ≡ Err fault →
    Fails n file fault
unfolding vouchers_from
from_err n [] fault e = absurd (no_rows fault [] (Err fault) (Ok []) refl refl (sym e))
from_err n (fields ∷ more) fault e =
    fails_by n fields more fault (voucher_of fields) (vouchers_from (n + 1) more) refl e
    (from_err (n + 1) more fault)

told_of : (n : ℕ) (before : List Record) (rows : List VoucherAddition) (bad : Record)
    (after : List Record) (fault : VoucherFault)
    → map voucher_of before ≡ all_say rows → voucher_of bad ≡ Err fault.kind
    → fault.record_number ≡ n + length before → vouchers_from n (before ++ bad ∷ after) ≡ Err fault
unfolding vouchers_from
told_of n [] rows bad after fault e kind number =
    let same : n ≡ fault.record_number = omega (arith, number) in
    rw kind (ap (λ m. Err (fault_at m fault.kind)) same)
told_of n (fields ∷ before) [] bad after fault e kind number = absurd (omega (arith, ap length e))
told_of n (fields ∷ before) (row ∷ rows) bad after fault e kind number =
    let first : voucher_of fields ≡ Ok row = ap first_or e in
    let others : vouchers_from (n + 1) (before ++ bad ∷ after) ≡ Err fault =
    told_of (n + 1) before rows bad after fault (ap others_of e) kind (omega (arith, number)) in
    rw (first, others) refl

-- ---- whole files

vouchers_by : (header : Record) (others : List Record) (rows : List VoucherAddition) (test : Bool)
    → is_header header ≡ test → (if test then vouchers_from 2 others else Err (fault_at 1 Header))
    ≡ Ok rows → AreVouchers (header ∷ others) rows
vouchers_by header others rows true is e =
    record {
      header = header;
      others = others;
      parts = refl;
      named = is;
      vouchers = from_ok 2 others rows e;
    }
vouchers_by header others rows false is e =
    absurd (no_rows (fault_at 1 Header) rows (Err (fault_at 1 Header)) (Ok rows) refl refl e)

-- rule: voucher-file.vouchers
pub are_vouchers : (file : List Record) (rows : List VoucherAddition) → vouchers_of file ≡ Ok rows →
    AreVouchers file rows
are_vouchers [] rows e =
    absurd (no_rows (fault_at 1 Header) rows (Err (fault_at 1 Header)) (Ok rows) refl refl e)
are_vouchers (header ∷ others) rows e = vouchers_by header others rows (is_header header) refl e

pub vouchers_are : (file : List Record) (rows : List VoucherAddition) → AreVouchers file rows →
    vouchers_of file ≡ Ok rows
vouchers_are file rows h = rw (h.parts, h.named) (from_rows 2 h.others rows h.vouchers)

fault_by : (header : Record) (others : List Record) (fault : VoucherFault) (test : Bool)
    → is_header header ≡ test → (if test then vouchers_from 2 others else Err (fault_at 1 Header))
    ≡ Err fault → IsFirstFault (header ∷ others) fault
fault_by header others fault true is e =
    let h = from_err 2 others fault e in
    inr (record {
      header = header;
      before = h.before;
      rows = h.rows;
      bad = h.bad;
      after = h.after;
      parts = ap (λ l. header ∷ l) h.parts;
      named = is;
      vouchers = h.vouchers;
      kind_is = h.kind_is;
      number_is = h.number_is;
    })
fault_by header others fault false is e = inl (record { none = is; told = sym (ap fault_or e) })

-- rule: voucher-file.vouchers
pub is_first_fault : (file : List Record) (fault : VoucherFault) → vouchers_of file ≡ Err fault →
    IsFirstFault file fault
is_first_fault [] fault e = inl (record { none = tt; told = sym (ap fault_or e) })
is_first_fault (header ∷ others) fault e = fault_by header others fault (is_header header) refl e

header_fault_is : (file : List Record) (fault : VoucherFault) → IsHeaderFault file fault →
    vouchers_of file ≡ Err fault
header_fault_is [] fault h = ap Err (sym h.told)
header_fault_is (header ∷ others) fault h = rw h.none (ap Err (sym h.told))

record_fault_is : (file : List Record) (fault : VoucherFault) → IsRecordFault file fault →
    vouchers_of file ≡ Err fault
record_fault_is file fault h =
    rw (h.parts, h.named)
    (told_of 2 h.before h.rows h.bad h.after fault h.vouchers h.kind_is h.number_is)

pub first_fault_is : (file : List Record) (fault : VoucherFault) → IsFirstFault file fault →
    vouchers_of file ≡ Err fault
first_fault_is file fault h = elim h [
  | inl none ↦ header_fault_is file fault none
  | inr one ↦ record_fault_is file fault one
]
