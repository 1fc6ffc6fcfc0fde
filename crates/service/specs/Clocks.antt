-- The moments of a clock that may not move.
use Rattle.std.specs.Prelude.{◌≡◌, ◌<◌, Option, None, Some, IfSome}
use Rattle.units.specs.Words.{Moment, no_end}

-- a clock that stays at a moment gives that one, and the machine's one of a command or none
-- rule: clock
abbrev pub GivesAt : Option Moment → Option Moment → Type 0
GivesAt at given = IfSome at (λ t. given ≡ Some t)
    × (at ≡ None → IfSome given (λ t. t < no_end))
