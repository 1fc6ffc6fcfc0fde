use Rattle.std.specs.Io.KnownBytes.{Keeps}
use Rattle.texts.proofs.streams.next_byte.Given as goal

-- no byte is taken
abbrev pub invariant-loop-attempt : goal.invariant-loop-attempt
invariant-loop-attempt g l = Keeps (g.R.Read.remaining l.fn.reader) (g.R.Read.remaining l.reader)
