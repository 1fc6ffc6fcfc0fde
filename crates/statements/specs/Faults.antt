-- Why a statement isn't written whole.
-- Source: profile.
use Rattle.std.specs.Prelude.{ℕ}
use Rattle.texts.specs.declared.streams.StreamFault.{StreamFault}
use Rattle.texts.specs.declared.streams.StreamFault.TheVariants as stream
use Rattle.keepers.specs.declared.fault.StoreFault.{StoreFault}
use Rattle.keepers.specs.declared.fault.StoreFault.TheVariants as store
use Rattle.statements.specs.declared.fault.StatementFault.{StatementFault}
use Rattle.statements.specs.declared.fault.StatementFault.TheVariants.{Memory, Store, Write}

abbrev pub statement_fault_number : StatementFault → ℕ
statement_fault_number Memory = 1
statement_fault_number Store = 2
statement_fault_number Write = 3

abbrev pub fault_of_store : StoreFault → StatementFault
fault_of_store store.Memory = Memory
fault_of_store store.Store = Store

abbrev pub fault_of_stream : StreamFault → StatementFault
fault_of_stream stream.Memory = Memory
fault_of_stream stream.Read = Write
fault_of_stream stream.Write = Write
