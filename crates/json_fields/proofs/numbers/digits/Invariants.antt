use Rattle.json_fields.proofs.Digits.{IsSoFar}
use Rattle.json_fields.proofs.numbers.digits.Given as goal

abbrev pub invariant-loop-byte : goal.invariant-loop-byte
invariant-loop-byte l = IsSoFar l.bytes l.byte-index l.value
