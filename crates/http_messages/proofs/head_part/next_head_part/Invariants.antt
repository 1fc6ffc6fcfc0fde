use Rattle.std.proofs.Common.{◌≤◌, length}
use Rattle.http_messages.proofs.Pieces.{IsKnown}
use Rattle.http_messages.proofs.head_part.next_head_part.Given as goal

-- the stream begins with what the taken bytes and the rest begin with
abbrev pub invariant-loop-turn : goal.invariant-loop-turn
invariant-loop-turn g l = (l._turn ≤ length l.part.items) × (length l.part.items ≤ 8192)
    × IsKnown l.part.items (g.R.Read.remaining l.fn.reader) (g.R.Read.remaining l.reader)
