use Rattle.std.proofs.Common.{◌≡◌, ◌++◌, drop, string_bytes}
use Rattle.operations.specs.CivilClock.{clock_text}
use Rattle.operations.proofs.civil_clock.clock_text.Given as goal

abbrev pub invariant-loop-moment : goal.invariant-loop-moment
invariant-loop-moment l =
    string_bytes l.text ++ clock_text l.shelf (drop l.moment-index l.moments)
    ≡ clock_text l.shelf l.moments
