-- The methods that routes have, compared with case.
-- Source: RFC 9110 section 9.1.
use Rattle.std.specs.Prelude.{Bool, codes, bytes_eq}
use Rattle.texts.specs.StreamWords.{Bytes}

abbrev pub is_get : Bytes → Bool
is_get method = bytes_eq method (codes "GET")

abbrev pub is_post : Bytes → Bool
is_post method = bytes_eq method (codes "POST")

abbrev pub is_put : Bytes → Bool
is_put method = bytes_eq method (codes "PUT")
