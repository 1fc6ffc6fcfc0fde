-- Faults of serving.
-- Source: profile.
use Rattle.std.specs.Prelude.{ℕ}
use Rattle.texts.specs.declared.streams.StreamFault.{StreamFault}
use Rattle.texts.specs.declared.streams.StreamFault.TheVariants as stream
use Rattle.http_api.specs.declared.fault.ServeFault.{ServeFault}
use Rattle.http_api.specs.declared.fault.ServeFault.TheVariants.{Memory, Read, Write}

abbrev pub serve_fault_number : ServeFault → ℕ
serve_fault_number Memory = 1
serve_fault_number Read = 2
serve_fault_number Write = 3

-- a stream's fault among them
abbrev pub serve_fault : StreamFault → ServeFault
serve_fault stream.Memory = Memory
serve_fault stream.Read = Read
serve_fault stream.Write = Write
