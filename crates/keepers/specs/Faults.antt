-- When a keeper may answer that its store failed.
-- Source: profile.
use Rattle.std.specs.Prelude.{ℕ, ◌+◌, ◌≤◌, min, IsErrOf, Result}
use Rattle.keepers.specs.declared.fault.StoreFault.{StoreFault}
use Rattle.keepers.specs.declared.fault.StoreFault.TheVariants.{Memory, Store}

abbrev pub store_fault_number : StoreFault → ℕ
store_fault_number Memory = 1
store_fault_number Store = 2

-- the count of failed calls stays here
abbrev pub max_failures : ℕ
max_failures = 1_000_000_000_000_000_000

-- a call doesn't lower the count, and a store fault comes only where the call raised it or it
-- is at the highest
-- rule: store-faults.cause: a store fault has a cause
pub record HasCause {T : Type 0} (old new : ℕ) (result : Result T StoreFault) : Type 0 where
  pub kept : old ≤ new
  pub cause : IsErrOf result Store → min (old + 1) max_failures ≤ new
