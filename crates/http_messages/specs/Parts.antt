-- What a stream of requests begins with: a head part is all bytes up to and with the first empty
-- line, at most 8,192 (RFC 9112 section 2.1; the bound: profile).
use Rattle.std.specs.Prelude.{◌≡◌, ◌≤◌, ℕ, List, [], ◌∷◌, ◌++◌, length, if◌then◌else◌, nat_lt}
use Rattle.std.specs.Prelude.{nat_eq, Option, Some}
use Rattle.std.specs.List.{ends_with}
use Rattle.std.specs.Io.KnownBytes.{Consumes}
use Rattle.texts.specs.StreamWords.{Bytes}
use Rattle.http_messages.specs.Words.{most_head}
use Rattle.http_messages.specs.declared.head_part.HeadPart.{HeadPart}
use Rattle.http_messages.specs.declared.head_part.HeadPart.TheVariants as head_part

-- a head part and the bytes after it, or none: too many bytes without an empty line, or the
-- stream's end before one
pub data Part : Type 0 where
  whole : List ℕ → List ℕ → Part
  too_long cut : Part

-- the head part that these bytes begin and the rest goes on with: it ends with an empty line, CR LF
-- CR LF
abbrev pub part_after : Bytes → Bytes → Part
part_after taken [] = if nat_lt (length taken) most_head then cut else too_long
part_after taken (b ∷ bytes) =
    if nat_lt (length taken) most_head
    then (if ends_with nat_eq (taken ++ b ∷ []) (13 ∷ 10 ∷ 13 ∷ 10 ∷ [])
    then whole (taken ++ b ∷ []) bytes
    else part_after (taken ++ b ∷ []) bytes)
    else too_long

-- what a stream begins with
-- rule: http-head: a request of an HTTP/1.1 connection
-- rule: http-head.shortest
abbrev pub first_part : Bytes → Part
first_part stream = part_after [] stream

-- ---- as it is given

-- this part is given, and what follows a head part is left
-- rule: http-head
abbrev pub IsHeadPart : Part → HeadPart → Option Bytes → Type 0
IsHeadPart (whole part rest) (head_part.Whole bytes) left = (bytes.items ≡ part)
    × (left ≡ Some rest)
IsHeadPart (whole part rest) head_part.TooLong left = ⊥
IsHeadPart (whole part rest) head_part.Ended left = ⊥
IsHeadPart too_long (head_part.Whole bytes) left = ⊥
IsHeadPart too_long head_part.TooLong left = Unit {0}
IsHeadPart too_long head_part.Ended left = ⊥
IsHeadPart cut (head_part.Whole bytes) left = ⊥
IsHeadPart cut head_part.TooLong left = ⊥
IsHeadPart cut head_part.Ended left = Unit {0}

-- a head part comes to what was taken before, off a stream that begins with it
pub record TakesHead (before after : Bytes) (old left : Option Bytes) : Type 0 where
  pub part : Bytes
  pub is_head : first_part part ≡ whole part []
  pub joined : after ≡ before ++ part
  pub taken : Consumes old left part

-- a head part has at most 8,192 bytes
abbrev pub IsShortHead : HeadPart → Type 0
IsShortHead (head_part.Whole bytes) = length bytes.items ≤ most_head
IsShortHead head_part.TooLong = Unit {0}
IsShortHead head_part.Ended = Unit {0}
