-- The faults of opening a database.
-- Source: profile.
use Rattle.std.specs.Prelude.{ℕ}
use Rattle.sql_tables.specs.declared.fault.OpenFault.{OpenFault}
use Rattle.sql_tables.specs.declared.fault.OpenFault.TheVariants.{Foreign, Version, Rules, Store}
use Rattle.sql_tables.specs.declared.fault.OpenFault.TheVariants.{Memory, Older}

-- the number under which a fault is reported
abbrev pub open_fault_number : OpenFault → ℕ
open_fault_number Foreign = 1
open_fault_number Version = 2
open_fault_number Rules = 3
open_fault_number Store = 4
open_fault_number Memory = 5
open_fault_number Older = 6
