-- The next request of a stream, or why there is none.
use Rattle.std.specs.Prelude.{◌≡◌, ℕ, Bool, List, [], map, length, take, drop, nat_lt}
use Rattle.std.specs.Prelude.{if◌then◌else◌, Result, Ok, Err, ◌⊎◌}
use Rattle.texts.specs.StreamWords.{Bytes}
use Rattle.httparse.specs.Grammar.{RequestHead, ReadsRequest}
use Rattle.httparse.specs.Spans.{name_and_value}
use Rattle.http_messages.specs.declared.requests.Taken.TheVariants as taken
use Rattle.http_messages.specs.Parts.{Part, whole, too_long, cut, first_part}
use Rattle.http_messages.specs.Statuses.{bad_request, fields_too_large}
use Rattle.http_messages.specs.Fields.{Fields, body_length, closes}

-- what a request asks, and whether it ends the connection
pub record Ask : Type 0 where
  pub method : Bytes
  pub target : Bytes
  pub closes : Bool
  pub body : Bytes

-- a request and the bytes after it, a refusal, or the stream's end before a request's
pub data Next : Type 0 where
  asks : Ask → List ℕ → Next
  refused : ℕ → Next
  ended : Next

-- ---- a head, and what follows

-- the body is the next so many bytes, by the names and the values of the head's fields
-- rule: http-head
-- rule: http-body: a body that ends early
abbrev pub after_head : RequestHead → Bytes → Next
after_head head rest = after_length (body_length head.method fields) rest
  where
    fields : Fields
    fields = map name_and_value head.fields

    ask : Bytes → Ask
    ask body = record {
      method = head.method;
      target = head.target;
      closes = closes head.minor fields;
      body = body;
    }

    after_length : Result ℕ ℕ → Bytes → Next
    after_length (Err status) bytes = refused status
    after_length (Ok n) bytes =
        if nat_lt (length bytes) n then ended else asks (ask (take n bytes)) (drop n bytes)

-- The head part as a whole is a head (RFC 9112 sections 3 and 5), and what follows is its body; one
-- that is no head is refused.
-- rule: http-head.next-is-one
abbrev pub IsNextRequest : Bytes → Next → Type 0
IsNextRequest stream next = follows (first_part stream) next
  where
    is_head : Bytes → RequestHead → Type 0
    is_head part head = ReadsRequest part head []

    follows : Part → Next → Type 0
    follows (whole part rest) what =
        ((head : RequestHead) × is_head part head × (what ≡ after_head head rest))
        ⊎ (((head : RequestHead) → ¬ (is_head part head)) × (what ≡ refused bad_request))
    follows too_long what = what ≡ refused fields_too_large
    follows cut what = what ≡ ended
