-- What the fields of a head say of the body and of the connection.
use Rattle.std.specs.Prelude.{ℕ, Bool, ◌&&◌, ◌||◌, ◌==◌, List, [], ◌∷◌, length, map, codes, nat_le}
use Rattle.std.specs.Prelude.{nat_lt, if◌then◌else◌, Option, Some, None, Result, Ok, Err, count_by}
use Rattle.std.specs.List.{list_all}
use Rattle.std.specs.Char.{to_ascii_lowercase, is_ascii_digit}
use Rattle.std.specs.Str.{bytes_eq}
use Rattle.std.specs.Str.Parse.{digits_value}
use Rattle.texts.specs.StreamWords.{Bytes}
use Rattle.http_messages.specs.Words.{most_body}
use Rattle.http_messages.specs.Methods.{is_post, is_put}
use Rattle.http_messages.specs.Statuses.{bad_request, length_required, payload_too_large}
use Rattle.http_messages.specs.Statuses.{not_implemented}

-- the fields of a head, each with its name and its value
abbrev pub Fields : Type 0
Fields = List (List ℕ × List ℕ)

-- names of fields without regard to ASCII case (RFC 9110 section 5.1)
abbrev pub same_field_name : Bytes → Bytes → Bool
same_field_name a b = bytes_eq (map to_ascii_lowercase a) (map to_ascii_lowercase b)

-- the values of the fields of a name
abbrev pub values_of : Bytes → Fields → List Bytes
values_of name [] = []
values_of name (field ∷ fields) =
    if same_field_name field.0 name then field.1 ∷ values_of name fields else values_of name fields

-- ---- the length of a body (RFC 9112 section 6)

-- The length of the body, or the status of a refusal. A Transfer-Encoding isn't taken; there is at
-- most one Content-Length, of 1 to 18 digits, and it says at most 65,536; a request without one has
-- no body, and a POST or a PUT must have one.
-- rule: http-length: the length of a body, and whether the connection ends
-- rule: http-coding: a Transfer-Encoding is refused before the length is looked at
abbrev pub body_length : Bytes → Fields → Result ℕ ℕ
body_length method fields =
    unless_coded (values_of (codes "Transfer-Encoding") fields)
    (by_values (values_of (codes "Content-Length") fields))
  where
    number : Bytes → Option ℕ
    number value =
        if nat_le 1 (length value) && (nat_le (length value) 18 && list_all is_ascii_digit value)
        then Some (digits_value 10 value) else None

    taken : Option ℕ → Result ℕ ℕ
    taken None = Err bad_request
    taken (Some n) = if nat_le n most_body then Ok n else Err payload_too_large

    by_values : List Bytes → Result ℕ ℕ
    by_values [] = if is_post method || is_put method then Err length_required else Ok 0
    by_values (value ∷ []) = taken (number value)
    by_values (value ∷ other ∷ more) = Err bad_request

    unless_coded : List Bytes → Result ℕ ℕ → Result ℕ ℕ
    unless_coded [] length = length
    unless_coded (coding ∷ codings) length = Err not_implemented

-- ---- the connection (RFC 9112 section 9.6)

-- the connection ends after a request of HTTP/1.0, and where a field says Connection: close
-- rule: http-length
abbrev pub closes : ℕ → Fields → Bool
closes minor fields = minor == 0 || nat_lt 0 (count_by says_close fields)
  where
    says_close : Bytes × Bytes → Bool
    says_close field =
        same_field_name field.0 (codes "Connection") && same_field_name field.1 (codes "close")
