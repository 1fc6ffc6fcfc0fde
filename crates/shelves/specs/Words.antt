-- What the texts of definitions about shelves are.
use Rattle.std.specs.Prelude.{ℕ, List}

-- the text of a tariff book, byte by byte
abbrev pub BookText : Type 0
BookText = List ℕ
