-- The voucher that a record says: its four fields, read from the left.
-- Source: profile; the fields are those of CSV, RFC 4180.
use Rattle.std.specs.Prelude.{ℕ, ◌≤◌, ◌&&◌, ◌==◌, List, [], ◌∷◌, length, get_or, codes, Bool}
use Rattle.std.specs.Prelude.{Option, Some, None, IfSome, IsTrue, Result, Ok, nat_le}
use Rattle.units.specs.Words.{greatest_number, most_money, most_days}
use Rattle.texts.specs.Steps.{◌>>=◌, or_fault, where_holds}
use Rattle.identifiers.specs.Texts.{is_voucher_code, same_name}
use Rattle.texts.specs.Numbers.{number_of}
use Rattle.voucher_rules.specs.declared.terms.VoucherTerms.{VoucherTerms}
use Rattle.vouchers.specs.declared.fault.FaultKind.{FaultKind}
use Rattle.vouchers.specs.declared.fault.FaultKind.TheVariants.{FieldCount, Code, Amount, Days}
use Rattle.vouchers.specs.declared.fault.FaultKind.TheVariants.{Scope}
use Rattle.commands.specs.declared.command.VoucherAddition.{VoucherAddition}

-- the field at a place, counted from 0; empty past the last
abbrev pub field : List (List ℕ) → ℕ → List ℕ
field fields i = get_or fields i []

-- 1 to 16 digits say a number of this range
unfoldable pub number_in_field : FaultKind → ℕ → ℕ → List ℕ → Result ℕ FaultKind
number_in_field fault low high text = do
  n ← or_fault fault (number_of text)
  where_holds (nat_le low n && nat_le n high) fault n

-- the same, where the field isn't empty
unfoldable pub optional_in_field : FaultKind → ℕ → ℕ → List ℕ → Result (Option ℕ) FaultKind
optional_in_field fault low high [] = Ok None
optional_in_field fault low high (b ∷ bs) = do
  n ← number_in_field fault low high (b ∷ bs)
  Ok (Some n)

-- behind the code: 1 to 10^15 micro-units, 1 to 3,650 days or none, a rating group or none
unfoldable pub terms_of : List (List ℕ) → Result VoucherTerms FaultKind
terms_of fields = do
  amount ← number_in_field Amount 1 most_money (field fields 1)
  days ← optional_in_field Days 1 most_days (field fields 2)
  scope ← optional_in_field Scope 0 greatest_number (field fields 3)
  Ok (record { amount = amount; days = days; scope = scope })

-- four fields: a code of 12 digits and the terms
-- rule: voucher-terms, voucher-file
unfoldable pub voucher_of : List (List ℕ) → Result VoucherAddition FaultKind
voucher_of fields = do
  four ← where_holds (length fields == 4) FieldCount fields
  code ← where_holds (is_voucher_code (field fields 0)) Code (field fields 0)
  terms ← terms_of fields
  Ok (record { code = code; terms = terms })

-- the first record of a file
abbrev pub is_header : List (List ℕ) → Bool
is_header fields = (length fields == 4) && same_name (field fields 0) (codes "code")
    && same_name (field fields 1) (codes "amount")
    && same_name (field fields 2) (codes "days") && same_name (field fields 3) (codes "scope")

-- the ranges of terms that were read
pub record AreInRange (terms : VoucherTerms) : Type 0 where
  pub some : 1 ≤ terms.amount
  pub amount : terms.amount ≤ most_money
  pub days : IfSome terms.days (λ n. (1 ≤ n) × (n ≤ most_days))
  pub scope : IfSome terms.scope (λ g. g ≤ greatest_number)

-- and of a voucher
-- rule: voucher-file
pub record IsVoucher (row : VoucherAddition) : Type 0 where
  pub code : IsTrue (is_voucher_code row.code)
  pub terms : AreInRange row.terms
