use Rattle.std.proofs.Common.{◌≢◌, All, take}
use Rattle.texts.proofs.streams.count_through.Given as goal

-- none of the bytes before is the one that stops
abbrev pub invariant-loop-at : goal.invariant-loop-at
invariant-loop-at l = All (λ b. b ≢ l.byte) (take l.at l.shown)
