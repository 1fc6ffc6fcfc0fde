-- The faults of a file of vouchers.
-- Source: profile.
use Rattle.std.specs.Prelude.{ℕ, Bool, true, false}
use Rattle.vouchers.specs.declared.fault.FaultKind.{FaultKind}
use Rattle.vouchers.specs.declared.fault.FaultKind.TheVariants.{Header, FieldCount, Code, Amount}
use Rattle.vouchers.specs.declared.fault.FaultKind.TheVariants.{Days, Scope, Read, Memory}

-- the number under which a fault is reported
abbrev pub voucher_fault_number : FaultKind → ℕ
voucher_fault_number Header = 1
voucher_fault_number FieldCount = 2
voucher_fault_number Code = 3
voucher_fault_number Amount = 4
voucher_fault_number Days = 5
voucher_fault_number Scope = 6
voucher_fault_number Read = 7
voucher_fault_number Memory = 8

-- the fault is in the file itself; the others are the reader's, and lack of memory
abbrev pub is_in_file : FaultKind → Bool
is_in_file Header = true
is_in_file FieldCount = true
is_in_file Code = true
is_in_file Amount = true
is_in_file Days = true
is_in_file Scope = true
is_in_file Read = false
is_in_file Memory = false
