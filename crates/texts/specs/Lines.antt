-- A stream of bytes, line by line: each line ends with a line feed, the last perhaps without.
-- Source: profile.
use Rattle.std.specs.Prelude.{◌≡◌, ℕ, ◌==◌, List, [], ◌∷◌, Option, Some, None, if◌then◌else◌}
use Rattle.std.specs.Prelude.{Vec}
use Rattle.std.specs.Global.{Global}
use Rattle.texts.specs.StreamWords.{Bytes}

-- the first line of a stream, and what follows its line feed
abbrev pub line_of : Bytes → Bytes
line_of [] = []
line_of (b ∷ bs) = if b == 10 then [] else b ∷ line_of bs

abbrev pub after_line : Bytes → Bytes
after_line [] = []
after_line (b ∷ bs) = if b == 10 then bs else after_line bs

-- the line is the stream's first, and this is left; none where the stream is empty
-- rule: lines: lines of a stream, or so many bytes
abbrev pub IsLineOf : Bytes → Option (Vec ℕ Global) → Option Bytes → Type 0
IsLineOf [] (Some line) left = ⊥
IsLineOf [] None left = left ≡ Some []
IsLineOf (b ∷ bs) (Some line) left = (line.items ≡ line_of (b ∷ bs))
    × (left ≡ Some (after_line (b ∷ bs)))
IsLineOf (b ∷ bs) None left = ⊥

-- a byte before the first of some lines
abbrev pub prepend : ℕ → List (List ℕ) → List (List ℕ)
prepend b [] = (b ∷ []) ∷ []
prepend b (l ∷ ls) = (b ∷ l) ∷ ls

-- the lines of a stream
-- rule: lines
abbrev pub lines_of : Bytes → List Bytes
lines_of [] = []
lines_of (b ∷ bs) = if b == 10 then [] ∷ lines_of bs else prepend b (lines_of bs)
