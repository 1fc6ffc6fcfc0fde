-- So many bytes of a stream, and the pieces that they are taken in.
-- Source: profile.
use Rattle.std.specs.Prelude.{◌≡◌, ◌≢◌, ◌<◌, ◌≤◌, ◌-◌, ◌++◌, ℕ, All, length, take, drop}
use Rattle.std.specs.Prelude.{Option, Some, None, IfSome, OnSome}
use Rattle.std.specs.Io.KnownBytes.{Consumes, IsAtEnd}
use Rattle.std.specs.Prelude.{Vec}
use Rattle.std.specs.Global.{Global}
use Rattle.texts.specs.StreamWords.{Byte, Bytes}

-- the part is the next so many bytes, and this is left; none where the stream has fewer
-- rule: lines
abbrev pub IsPartOf : ℕ → Bytes → Option (Vec ℕ Global) → Option Bytes → Type 0
IsPartOf count stream (Some part) left = (count ≤ length stream) × (part.items ≡ take count stream)
    × (left ≡ Some (drop count stream))
IsPartOf count stream None left = length stream < count

-- the next so many bytes, at most `most`, come to a part; none but the last of them is one that
-- stops
-- rule: lines
pub record TakesPiece (stop : Option Byte) (most : ℕ) (before after : Bytes)
    (old left : Option Bytes) (count : ℕ) : Type 0 where
  pub piece : Bytes
  pub counted : length piece ≡ count
  pub within : count ≤ most
  pub part : after ≡ before ++ piece
  pub taken : Consumes old left piece
  pub stops : IfSome stop (λ byte. All (λ b. b ≢ byte) (take (count - 1) piece))
  pub end : count ≡ 0 → OnSome old (IsAtEnd left)
