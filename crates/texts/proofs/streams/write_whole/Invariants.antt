use Rattle.std.proofs.Common.{◌≤◌, length, take}
use Rattle.std.specs.Io.KnownBytes.{Appends}
use Rattle.texts.proofs.streams.write_whole.Given as goal

-- so much of the text is written
abbrev pub invariant-loop-turn : goal.invariant-loop-turn
invariant-loop-turn g l = (l._turn ≤ l.at) × (l.at ≤ length l.text)
    × Appends (g.W.Write.contents l.fn.writer) (g.W.Write.contents l.writer) (take l.at l.text)
