-- Numbers set right in columns, with one blank between.
-- Source: profile.
use Rattle.std.specs.Prelude.{ℕ, ◌-◌, ◌++◌, List, [], ◌∷◌, length, replicate}
use Rattle.std.specs.Fmt.{decimal}
use Rattle.texts.specs.StreamWords.{Bytes}
use Rattle.statements.specs.declared.columns.Column.{Column}

abbrev pub blanks : ℕ → Bytes
blanks n = replicate n 32

-- a wider number takes its own width
abbrev pub column_text : Column → Bytes
column_text c = blanks (c.width - length (decimal c.value)) ++ decimal c.value

-- each after a blank, and the line's end
abbrev pub columns_text : List Column → Bytes
columns_text [] = 10 ∷ []
columns_text (c ∷ rest) = 32 ∷ (column_text c ++ columns_text rest)

-- a column of so many places
abbrev pub set : ℕ → ℕ → Column
set width value = record { width = width; value = value }
