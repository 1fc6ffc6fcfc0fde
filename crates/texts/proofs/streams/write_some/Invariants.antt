use Rattle.std.specs.Io.KnownBytes.{Keeps}
use Rattle.texts.proofs.streams.write_some.Given as goal

-- nothing is written
abbrev pub invariant-loop-attempt : goal.invariant-loop-attempt
invariant-loop-attempt g l = Keeps (g.W.Write.contents l.fn.writer) (g.W.Write.contents l.writer)
