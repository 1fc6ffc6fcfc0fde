use Rattle.std.proofs.Common.{◌≡◌, ℕ, List, IfSome, Some, length}
use Rattle.texts.proofs.LineLemmas.{Begins}
use Rattle.texts.proofs.streams.next_line.Given as goal

-- what was taken and the rest of the stream are the stream, and no line feed was taken
abbrev pub invariant-loop-taken : goal.invariant-loop-taken
invariant-loop-taken g l = record {
  count : length l.line.items ≡ l._taken;
  begins : IfSome (g.R.Read.remaining l.fn.reader) (λ stream. (rest : List ℕ)
      × (g.R.Read.remaining l.reader ≡ Some rest) × Begins l.line.items rest stream);
}
