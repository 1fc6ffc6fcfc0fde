-- What the numbers of definitions about messages are, and their limits.
use Rattle.std.specs.Prelude.{ℕ}

-- the status of an answer (RFC 9110 section 15)
abbrev pub StatusCode : Type 0
StatusCode = ℕ

-- ---- limits (profile)

-- the most bytes of a head part, with the empty line that ends it
abbrev pub most_head : ℕ
most_head = 8192

-- the most bytes of a body
abbrev pub most_body : ℕ
most_body = 65536
