-- A head part by what it is of its stream: the shortest beginning that ends with an empty line.
use Rattle.std.specs.Prelude.{◌≡◌, ◌<◌, ◌≤◌, ◌++◌, ◌∷◌, [], ℕ, Bool, length, nat_eq, take}
use Rattle.std.specs.Prelude.{false, true}
use Rattle.std.specs.List.{ends_with}
use Rattle.texts.specs.StreamWords.{Bytes}
use Rattle.http_messages.specs.Words.{most_head}
use Rattle.http_messages.specs.Parts.{Part, whole, too_long, cut, first_part}
use Rattle.http_messages.specs.Requests.{Next, IsNextRequest}

-- the bytes end with an empty line: CR LF CR LF
abbrev pub ends_head : Bytes → Bool
ends_head bytes = ends_with nat_eq bytes (13 ∷ 10 ∷ 13 ∷ 10 ∷ [])

-- no beginning of at most so many bytes ends with an empty line
abbrev pub HasNoEnd : ℕ → Bytes → Type 0
HasNoEnd most stream = (n : ℕ) → n ≤ most → ends_head (take n stream) ≡ false

-- these bytes and the rest are the stream, they are at most 8,192 and end with an empty line, and
-- no shorter beginning ends with one
-- rule: http-head.shortest: the head part is the shortest beginning of the stream that ends with
--   an empty line
pub record IsShortest (stream part rest : Bytes) : Type 0 where
  pub split : stream ≡ part ++ rest
  pub few : length part ≤ most_head
  pub ends : ends_head part ≡ true
  pub shorter : (n : ℕ) → n < length part → ends_head (take n stream) ≡ false

-- what a stream begins with, in words: its shortest such beginning; none within its first 8,192
-- bytes; none in a stream of fewer
-- rule: http-head.shortest
abbrev pub IsFirstPart : Bytes → Part → Type 0
IsFirstPart stream (whole part rest) = IsShortest stream part rest
IsFirstPart stream too_long = (most_head ≤ length stream) × HasNoEnd most_head stream
IsFirstPart stream cut = (length stream < most_head) × HasNoEnd (length stream) stream

-- of each stream this is so, and of nothing else
-- rule: http-head.shortest
pub record AreShortest : Type 0 where
  pub is : (stream : Bytes) → IsFirstPart stream (first_part stream)
  pub alone : (stream : Bytes) (part : Part) → IsFirstPart stream part →
      first_part stream ≡ part

-- a stream has one next
-- rule: http-head.next-is-one: what comes next in a stream is one thing
abbrev pub NextIsOne : Type 0
NextIsOne = (stream : Bytes) (a b : Next) → IsNextRequest stream a → IsNextRequest stream b → a ≡ b
