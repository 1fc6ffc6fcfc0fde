-- A file of vouchers, record by record: the first is the header, and each other says one voucher;
-- or the first record with a fault is reported.
-- Source: profile; the records are those of CSV, RFC 4180.
use Rattle.std.specs.Prelude.{◌≡◌, ◌↔◌, ◌⊎◌, ℕ, ◌+◌, List, [], ◌∷◌, ◌++◌, length, map, true, false}
use Rattle.std.specs.Prelude.{Result, Ok, Err}
use Rattle.vouchers.specs.Files.{fault_at, records_in, vouchers_in}
use Rattle.vouchers.specs.Rows.{is_header, voucher_of}
use Rattle.vouchers.specs.declared.fault.FaultKind.{FaultKind}
use Rattle.vouchers.specs.declared.fault.FaultKind.TheVariants.{Header}
use Rattle.vouchers.specs.declared.fault.VoucherFault.{VoucherFault}
use Rattle.commands.specs.declared.command.VoucherAddition.{VoucherAddition}

abbrev pub Record : Type 0
Record = List (List ℕ)

-- each of the records says one voucher
abbrev pub all_say : List VoucherAddition → List (Result VoucherAddition FaultKind)
all_say rows = map (λ (row : VoucherAddition). Ok row) rows

-- behind the header, each record of the file says one of the vouchers, in their order
-- rule: voucher-file.vouchers: vouchers are a file's records, and its first fault is reported
pub record AreVouchers (file : List Record) (rows : List VoucherAddition) : Type 0 where
  pub header : Record
  pub others : List Record
  pub parts : file ≡ header ∷ others
  pub named : is_header header ≡ true
  pub vouchers : map voucher_of others ≡ all_say rows

-- the first record isn't the header, or there is none
abbrev pub HasNoHeader : List Record → Type 0
HasNoHeader [] = Unit {0}
HasNoHeader (first ∷ others) = is_header first ≡ false

-- this is reported at record 1
pub record IsHeaderFault (file : List Record) (fault : VoucherFault) : Type 0 where
  pub none : HasNoHeader file
  pub told : fault ≡ fault_at 1 Header

-- a record has a fault, and those between the header, record 1, and it say vouchers
pub record IsRecordFault (file : List Record) (fault : VoucherFault) : Type 0 where
  pub header : Record
  pub before : List Record
  pub rows : List VoucherAddition
  pub bad : Record
  pub after : List Record
  pub parts : file ≡ header ∷ before ++ bad ∷ after
  pub named : is_header header ≡ true
  pub vouchers : map voucher_of before ≡ all_say rows
  pub kind_is : voucher_of bad ≡ Err fault.kind
  pub number_is : fault.record_number ≡ 2 + length before

-- the first fault of a file
-- rule: voucher-file.vouchers
abbrev pub IsFirstFault : List Record → VoucherFault → Type 0
IsFirstFault file fault = IsHeaderFault file fault ⊎ IsRecordFault file fault

-- a file says vouchers exactly where each of its records but the header says one of them
-- rule: voucher-file.vouchers
abbrev pub VouchersAreRecords : Type 0
VouchersAreRecords = (text : List ℕ) (rows : List VoucherAddition) →
    (vouchers_in text ≡ Ok rows) ↔ AreVouchers (records_in text) rows

-- a fault is reported exactly where it is the first record's that has one
-- rule: voucher-file.vouchers
abbrev pub VoucherFaultIsTold : Type 0
VoucherFaultIsTold = (text : List ℕ) (fault : VoucherFault) →
    (vouchers_in text ≡ Err fault) ↔ IsFirstFault (records_in text) fault
