-- The faults of a book, and what it is to read with the first one.
-- Source: profile.
use Rattle.std.specs.Prelude.{ℕ, Result}
use Rattle.tariffs.specs.declared.fault.BookFault.{BookFault}
use Rattle.tariffs.specs.declared.fault.BookFault.TheVariants.{NotToml, Missing, WrongKind}
use Rattle.tariffs.specs.declared.fault.BookFault.TheVariants.{OutOfRange, UnknownPeriod}
use Rattle.tariffs.specs.declared.fault.BookFault.TheVariants.{WeekNotCovered, TiersNotRising}
use Rattle.tariffs.specs.declared.fault.BookFault.TheVariants.{TooMany, Memory}
use Rattle.texts.specs.Steps.{GivesUnless}
pub use Rattle.texts.specs.Steps.{◌>>=◌, or_fault, where_holds, Says}

-- the number under which a fault is reported
abbrev pub book_fault_number : BookFault → ℕ
book_fault_number NotToml = 1
book_fault_number Missing = 2
book_fault_number WrongKind = 3
book_fault_number OutOfRange = 4
book_fault_number UnknownPeriod = 5
book_fault_number WeekNotCovered = 6
book_fault_number TiersNotRising = 7
book_fault_number TooMany = 8
book_fault_number Memory = 9

-- what a call returned, seen by `view`, is what reading gives; lack of memory may come in place of
-- it
abbrev pub Gives : {X Y : Type 0} → (X → Y) → Result X BookFault → Result Y BookFault → Type 0
Gives view returned reading = GivesUnless Memory view returned reading
