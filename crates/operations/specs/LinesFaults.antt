-- The faults of lines: wants of memory, which come over a store, what answering lines ends with,
-- and what is reported of it.
-- Source: profile.
use Rattle.std.specs.Prelude.{Option, Some, None, Result, Ok, Err}
use Rattle.texts.specs.declared.streams.StreamFault.{StreamFault}
use Rattle.texts.specs.declared.streams.StreamFault.TheVariants as stream
use Rattle.keepers.specs.declared.fault.StoreFault.{StoreFault}
use Rattle.keepers.specs.declared.fault.StoreFault.TheVariants as store
use Rattle.operations.specs.Told.{FaultWords, about_store, about_stream}
use Rattle.operations.specs.declared.lines_fault.LinesFault.{LinesFault}
use Rattle.operations.specs.declared.lines_fault.LinesFault.TheVariants.{Read, Store, Both, Write}

abbrev pub before_reading : LinesFault
before_reading = Read stream.Memory

-- the keeper's fault, whatever became of writing the answers; else the fault of writing them
abbrev pub ended_as : {A : Type 0} → Option StoreFault → Result A StreamFault → Result A LinesFault
ended_as None (Ok written) = Ok written
ended_as None (Err fault) = Err (Write fault)
ended_as (Some fault) (Ok written) = Err (Store fault)
ended_as (Some fault) (Err unwritten) = Err (Both fault)

-- memory is a store that never fails; one that may fail there is only where this is so
abbrev pub IsReachedByLines : Type 0 → LinesFault → Type 0
IsReachedByLines Over (Read fault) = Unit {0}
IsReachedByLines Over (Store store.Memory) = Unit {0}
IsReachedByLines Over (Store store.Store) = Over
IsReachedByLines Over (Both store.Memory) = Unit {0}
IsReachedByLines Over (Both store.Store) = Over
IsReachedByLines Over (Write fault) = Unit {0}

-- the lines weren't read
abbrev pub AreUnread : LinesFault → Type 0
AreUnread (Read fault) = Unit {0}
AreUnread (Store fault) = ⊥
AreUnread (Both fault) = ⊥
AreUnread (Write fault) = ⊥

-- what is reported of one on standard error
abbrev pub about_lines : LinesFault → FaultWords
about_lines (Read fault) = about_stream fault
about_lines (Store fault) = about_store fault
about_lines (Both fault) = about_store fault
about_lines (Write fault) = about_stream fault
