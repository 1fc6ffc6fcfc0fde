-- What the numbers and texts of definitions about a schema are.
use Rattle.std.specs.Prelude.{ℕ, List}

-- a version of the tables
abbrev pub TablesVersion : Type 0
TablesVersion = ℕ

-- a table or an index, by the number of its tree in the file
abbrev pub TreeNumber : Type 0
TreeNumber = ℕ

-- the name of a table, an index or a column, byte by byte
abbrev pub SqlName : Type 0
SqlName = List ℕ
