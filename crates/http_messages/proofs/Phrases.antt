-- The phrases of the nine statuses of answers, spelled out.
-- rule: http-answer.answer-status
use Rattle.std.proofs.Common.{◌≡◌, codes, refl}
use Rattle.http_messages.specs.Statuses.{ok, bad_request, not_found, method_not_allowed}
use Rattle.http_messages.specs.Statuses.{length_required, payload_too_large, fields_too_large}
use Rattle.http_messages.specs.Statuses.{not_implemented, service_unavailable}
use Rattle.http_messages.specs.Texts.{phrase}

pub ok_phrase : phrase ok ≡ codes "OK"
unfolding phrase
ok_phrase = refl

pub bad_request_phrase : phrase bad_request ≡ codes "Bad Request"
unfolding phrase
bad_request_phrase = refl

pub not_found_phrase : phrase not_found ≡ codes "Not Found"
unfolding phrase
not_found_phrase = refl

pub method_not_allowed_phrase : phrase method_not_allowed ≡ codes "Method Not Allowed"
unfolding phrase
method_not_allowed_phrase = refl

pub length_required_phrase : phrase length_required ≡ codes "Length Required"
unfolding phrase
length_required_phrase = refl

pub payload_too_large_phrase : phrase payload_too_large ≡ codes "Payload Too Large"
unfolding phrase
payload_too_large_phrase = refl

pub fields_too_large_phrase : phrase fields_too_large ≡ codes "Request Header Fields Too Large"
unfolding phrase
fields_too_large_phrase = refl

pub not_implemented_phrase : phrase not_implemented ≡ codes "Not Implemented"
unfolding phrase
not_implemented_phrase = refl

pub service_unavailable_phrase : phrase service_unavailable ≡ codes "Service Unavailable"
unfolding phrase
service_unavailable_phrase = refl
