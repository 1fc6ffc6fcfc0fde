-- Which fault of a call over a keeper is the keeper's.
-- Source: profile.
use Rattle.std.specs.Prelude.{Option, None, Some, Result, Ok, Err}
use Rattle.keepers.specs.declared.fault.StoreFault.{StoreFault}
use Rattle.operations.specs.declared.fault.OfficeFault.{OfficeFault}
use Rattle.operations.specs.declared.fault.OfficeFault.TheVariants.{Store, Write}

abbrev pub store_fault : OfficeFault → Option StoreFault
store_fault (Store fault) = Some fault
store_fault (Write fault) = None

-- the one that a call ended with, where it is one
abbrev pub office_store_fault : {A : Type 0} → Result A OfficeFault → Option StoreFault
office_store_fault (Ok done) = None
office_store_fault (Err fault) = store_fault fault
