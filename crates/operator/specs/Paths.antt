-- Paths of files.
-- Source: profile.
use Rattle.std.specs.Prelude.{ℕ, Bool, List, length, nat_le}

-- a path has a byte
abbrev pub is_file_path : List ℕ → Bool
is_file_path text = nat_le 1 (length text)
