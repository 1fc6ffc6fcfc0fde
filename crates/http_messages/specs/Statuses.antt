-- The statuses that answers have.
-- Source: RFC 9110 section 15; 431: RFC 6585 section 5.
use Rattle.std.specs.Prelude.{ℕ, ◌==◌, List, [], ◌∷◌, IsTrue}
use Rattle.std.specs.List.{list_any}
use Rattle.http_messages.specs.Words.{StatusCode}

-- the request is answered
abbrev pub ok : ℕ
ok = 200

-- no head, more than one length, or a fault of the request
abbrev pub bad_request : ℕ
bad_request = 400

-- no such path
abbrev pub not_found : ℕ
not_found = 404

-- the path has another method
abbrev pub method_not_allowed : ℕ
method_not_allowed = 405

-- a POST or a PUT without Content-Length
abbrev pub length_required : ℕ
length_required = 411

-- a body of more than 65,536 bytes
abbrev pub payload_too_large : ℕ
payload_too_large = 413

-- a head part that doesn't end within 8,192 bytes
abbrev pub fields_too_large : ℕ
fields_too_large = 431

-- a Transfer-Encoding
abbrev pub not_implemented : ℕ
not_implemented = 501

-- no memory, no store or no clock
abbrev pub service_unavailable : ℕ
service_unavailable = 503

-- the status is one of these nine
-- rule: http-answer.answer-status: an answer over HTTP has one of nine statuses, with its phrase
abbrev pub IsAnswerStatus : StatusCode → Type 0
IsAnswerStatus status = IsTrue (list_any (λ s. s == status) nine)
  where
    nine : List ℕ
    nine = ok ∷ bad_request ∷ not_found ∷ method_not_allowed ∷ length_required
        ∷ payload_too_large ∷ fields_too_large ∷ not_implemented ∷ service_unavailable ∷ []
