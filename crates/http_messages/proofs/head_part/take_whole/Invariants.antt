use Rattle.std.proofs.Common.{◌≡◌}
use Rattle.std.specs.Io.KnownBytes.{Keeps}
use Rattle.http_messages.proofs.head_part.take_whole.Given as goal

-- nothing is taken
abbrev pub invariant-loop-attempt : goal.invariant-loop-attempt
invariant-loop-attempt g l = Keeps (g.R.Read.remaining l.fn.reader) (g.R.Read.remaining l.reader)
    × (l.part.items ≡ l.fn.part.items)
