-- The statuses of requests that are refused.
-- Source: RFC 9110 sections 15.5 and 15.6; 431: RFC 6585 section 5.
use Rattle.std.specs.Prelude.{ℕ, ◌==◌, if◌then◌else◌}
use Rattle.http_messages.specs.Words.{StatusCode}
use Rattle.http_messages.specs.Statuses as status
use Rattle.http_messages.specs.declared.refusal.HttpRefusal.{HttpRefusal}
use Rattle.http_messages.specs.declared.refusal.HttpRefusal.TheVariants.{BadRequest, NotFound}
use Rattle.http_messages.specs.declared.refusal.HttpRefusal.TheVariants.{MethodNotAllowed}
use Rattle.http_messages.specs.declared.refusal.HttpRefusal.TheVariants.{LengthRequired}
use Rattle.http_messages.specs.declared.refusal.HttpRefusal.TheVariants.{PayloadTooLarge}
use Rattle.http_messages.specs.declared.refusal.HttpRefusal.TheVariants.{FieldsTooLarge}
use Rattle.http_messages.specs.declared.refusal.HttpRefusal.TheVariants.{NotImplemented}

-- the status of a refusal
-- rule: http-refusals: a refusal, and that a body is no JSON object, are answered without memory
abbrev pub refusal_status : HttpRefusal → ℕ
refusal_status BadRequest = status.bad_request
refusal_status NotFound = status.not_found
refusal_status MethodNotAllowed = status.method_not_allowed
refusal_status LengthRequired = status.length_required
refusal_status PayloadTooLarge = status.payload_too_large
refusal_status FieldsTooLarge = status.fields_too_large
refusal_status NotImplemented = status.not_implemented

-- the refusal of a head or of a length that has this status
-- rule: http-refusals
abbrev pub refusal_of : StatusCode → HttpRefusal
refusal_of code =
    if code == status.length_required then LengthRequired
    else (if code == status.payload_too_large then PayloadTooLarge
    else (if code == status.fields_too_large then FieldsTooLarge
    else (if code == status.not_implemented then NotImplemented else BadRequest)))
