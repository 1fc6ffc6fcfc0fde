-- What becomes of a tariff book that is added, and which faults are reported.
-- Source: profile.
use Rattle.std.specs.Prelude.{◌≡◌, Result, Ok, Err}
use Rattle.operations.specs.declared.fault.OfficeFault.TheVariants.{Store}
use Rattle.sql_keeper.specs.declared.add_fault.AddFault.{AddFault}
use Rattle.service.specs.Told.{adding_fault}
use Rattle.service.specs.declared.fault.DatabaseFault.{DatabaseFault}
use Rattle.service.specs.declared.fault.DatabaseFault.TheVariants.{File, Book, Open, Shelf}
use Rattle.service.specs.declared.fault.DatabaseFault.TheVariants.{Memory, Office}

abbrev pub of_adding : Result (Unit {0}) AddFault → Result (Unit {0}) DatabaseFault
of_adding (Ok unit) = Ok unit
of_adding (Err fault) = Err (adding_fault fault)

-- this is so of the keeper's answer, which is reported
-- rule: database-words
pub record IsOfAdding (says : Result (Unit {0}) AddFault → Type 0)
    (result : Result (Unit {0}) DatabaseFault) : Type 0 where
  pub answer : Result (Unit {0}) AddFault
  pub is : result ≡ of_adding answer
  pub was : says answer

-- one of the text, of the shelf, or of the store
abbrev pub IsAddingFault : DatabaseFault → Type 0
IsAddingFault (Book fault) = Unit {0}
IsAddingFault (Shelf fault) = Unit {0}
IsAddingFault (Office (Store fault)) = Unit {0}
IsAddingFault _ = ⊥

-- or of a file, of the tables of its database, or of memory
-- rule: database-words
abbrev pub IsAdditionFault : DatabaseFault → Type 0
IsAdditionFault File = Unit {0}
IsAdditionFault (Open fault) = Unit {0}
IsAdditionFault Memory = Unit {0}
IsAdditionFault fault = IsAddingFault fault
