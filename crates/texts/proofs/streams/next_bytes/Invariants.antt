use Rattle.std.proofs.Common.{◌≡◌, ◌≤◌, ◌++◌, ℕ, List, length, IfSome, Some}
use Rattle.texts.proofs.streams.next_bytes.Given as goal

-- what was taken and the rest of the stream are the stream
abbrev pub invariant-loop-turn : goal.invariant-loop-turn
invariant-loop-turn g l = (l._turn ≤ length l.part.items) × (length l.part.items ≤ l.count)
    × IfSome (g.R.Read.remaining l.fn.reader) (λ stream. (rest : List ℕ)
    × (g.R.Read.remaining l.reader ≡ Some rest) × (stream ≡ l.part.items ++ rest))
