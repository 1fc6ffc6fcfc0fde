-- The moments that a clock gives, one call after another.
use Rattle.std.specs.Prelude.{◌≡◌, List, [], ◌∷◌, Option}
use Rattle.units.specs.Words.{Moment}

-- these are given one after another, from the first state of a clock to the last; None: it doesn't
-- answer
abbrev pub GivesInTurn : {C : Type 0} → (C → Option Moment → C → Type 0) → C →
    List (Option Moment) → C → Type 0
GivesInTurn gives first [] last = last ≡ first
GivesInTurn {C} gives first (m ∷ ms) last = (between : C) × gives first m between
    × GivesInTurn gives between ms last
