-- What is answered to a text that is no JSON object.
use Rattle.std.proofs.Common.{◌≡◌, refl}
use Rattle.std.specs.Fmt.{digits}
use Rattle.json.specs.Print.{escape_byte}
use Rattle.json_fields.specs.declared.fault.WireFault.TheVariants.{NotRequest}
use Rattle.wire.specs.Spelled.{fault_data, fault_text}
use Rattle.http_messages.specs.Texts.{unable}

-- rule: http-refusals
pub not_request_text : fault_text NotRequest ≡ unable
unfolding fault_text fault_data escape_byte digits
not_request_text = refl
