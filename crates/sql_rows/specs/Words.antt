-- What the columns of a kept answer's key are.
use Rattle.std.specs.Prelude.{ℕ, List}

-- which of the two kinds of keys it is: a session with a request's number, or a reference
abbrev pub KeyKind : Type 0
KeyKind = ℕ

-- the name of a session, or a reference, byte by byte
abbrev pub KeyName : Type 0
KeyName = List ℕ

-- the number of a request (CC-Request-Number); 0 with a reference
abbrev pub KeyNumber : Type 0
KeyNumber = ℕ
