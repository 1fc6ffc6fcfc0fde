-- What the numbers and texts of definitions about streams are.
use Rattle.std.specs.Prelude.{ℕ, List}

abbrev pub Byte : Type 0
Byte = ℕ

-- a text, or a stream, byte by byte
abbrev pub Bytes : Type 0
Bytes = List ℕ
