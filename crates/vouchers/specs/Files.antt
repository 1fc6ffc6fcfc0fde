-- What a file of vouchers says: all its vouchers in order, or its first fault with the number of
-- its record. Records are those of the csv crate: a byte order mark at the start is no part of
-- them, and an empty line is none.
-- Source: profile; RFC 4180.
use Rattle.std.specs.Prelude.{◌≡◌, ℕ, ◌+◌, ◌≤◌, ◌&&◌, Bool, Option, List, [], ◌∷◌, length, IfErr}
use Rattle.std.specs.Prelude.{Result, Ok, Err, if◌then◌else◌}
use Rattle.csv.specs.Reading.{ReadRecord, records, default_config, strip_bom}
use Rattle.csv.specs.declared.reader.Reader.{Reader}
use Rattle.texts.specs.Steps.{◌>>=◌}
use Rattle.vouchers.specs.declared.fault.FaultKind.{FaultKind}
use Rattle.vouchers.specs.declared.fault.FaultKind.TheVariants.{Header}
use Rattle.vouchers.specs.declared.fault.VoucherFault.{VoucherFault}
use Rattle.commands.specs.declared.command.VoucherAddition.{VoucherAddition}
use Rattle.vouchers.specs.Rows.{voucher_of, is_header}

-- the records of a text, each the list of its fields
abbrev pub records_in : List ℕ → List (List (List ℕ))
records_in text = records default_config (strip_bom text)

-- a fault of the record with this number
abbrev pub fault_at : ℕ → FaultKind → VoucherFault
fault_at number kind = record { record_number = number; kind = kind }

-- what is read of the record with this number
abbrev pub at_record : {A : Type 0} → ℕ → Result A FaultKind → Result A VoucherFault
at_record number (Ok x) = Ok x
at_record number (Err kind) = Err (fault_at number kind)

-- the records from this number on, one after the other; the first fault ends it
unfoldable pub vouchers_from : ℕ → List (List (List ℕ)) → Result (List VoucherAddition) VoucherFault
vouchers_from number [] = Ok []
vouchers_from number (fields ∷ more) = do
  row ← at_record number (voucher_of fields)
  rows ← vouchers_from (number + 1) more
  Ok (row ∷ rows)

-- the header is record 1, and the vouchers follow it
abbrev pub vouchers_of : List (List (List ℕ)) → Result (List VoucherAddition) VoucherFault
vouchers_of [] = Err (fault_at 1 Header)
vouchers_of (fields ∷ more) =
    if is_header fields then vouchers_from 2 more else Err (fault_at 1 Header)

-- what a file says
-- rule: voucher-file: a file of vouchers, or its first fault
abbrev pub vouchers_in : List ℕ → Result (List VoucherAddition) VoucherFault
vouchers_in text = vouchers_of (records_in text)

-- reading may stop at this record: no earlier one has a fault, and it is at most one past the last;
-- the first is record 1
-- rule: voucher-file
pub record MayStopAt (number : ℕ) (text : List ℕ) : Type 0 where
  pub numbered : 1 ≤ number
  pub within : number ≤ length (records_in text) + 1
  pub no_earlier : IfErr (vouchers_in text) (λ fault. number ≤ fault.record_number)

-- a first record was taken, or there is none; it is the header where `has` says so
abbrev pub ReadsFirst : {R : Type 0} → (R → Option (List ℕ)) → Reader R → Reader R → Bool → Type 0
ReadsFirst rem old new has = (found : Bool) × (fields : List (List ℕ))
    × ReadRecord rem old new found fields × (has ≡ (found && is_header fields))
