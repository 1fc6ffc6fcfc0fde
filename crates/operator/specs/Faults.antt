-- Lack of memory among the faults of a word.
-- Source: profile.
use Rattle.operator.specs.declared.fault.ValueFault.{ValueFault}
use Rattle.operator.specs.declared.fault.ValueFault.TheVariants.{Memory}

abbrev pub out_of_memory : ValueFault
out_of_memory = Memory
