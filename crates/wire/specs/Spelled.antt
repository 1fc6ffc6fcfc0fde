-- How an answer is spelled: compact JSON, with the members in the byte order of their names.
use Rattle.std.specs.Prelude.{ℕ, List, [], ◌∷◌, Option, Some, None, option_map}
use Rattle.units.specs.Words.{Moment, Seconds}
use Rattle.serde_json.specs.Data.{Data, string, array, object, Items, no_items, item}
use Rattle.serde_json.specs.Data.{Members, no_members, member}
use Rattle.serde_json.specs.Written.{compact_text}
use Rattle.commands.specs.declared.avp.Avp.TheVariants as avp
use Rattle.commands.specs.Names.{name_of, cost_information, validity_time, final_unit}
use Rattle.commands.specs.Names.{redirect_server_address, final_unit_action, refusal}
use Rattle.commands.specs.Names.{tariff_time_change, granted_unit, failed_avp}
use Rattle.commands.specs.Names.{redirect_address_type, check_balance_result, bucket, accounts}
use Rattle.commands.specs.Names.{redirect_server, result_code}
use Rattle.commands.specs.Measured.{Measured}
use Rattle.commands.specs.Codes.{kind_number, service_failure_number, failure_number}
use Rattle.commands.specs.Codes.{balance_number, refusal_name}
use Rattle.commands.specs.declared.answer.FinalUnit.{FinalUnit}
use Rattle.commands.specs.declared.answer.FinalUnit.TheVariants.{Terminate, Redirect}
use Rattle.commands.specs.declared.answer.GrantedServiceUnit.{GrantedServiceUnit}
use Rattle.commands.specs.declared.answer.ServiceOutcome.{ServiceOutcome}
use Rattle.commands.specs.declared.answer.ServiceOutcome.TheVariants as service
use Rattle.commands.specs.declared.answer.ServiceAnswer.{ServiceAnswer}
use Rattle.commands.specs.declared.answer.Failure.{Failure}
use Rattle.commands.specs.declared.answer.Failure.TheVariants.{Denied, UnknownSessionId}
use Rattle.commands.specs.declared.answer.Failure.TheVariants.{InvalidAvpValue, UnableToComply}
use Rattle.commands.specs.declared.answer.Failure.TheVariants.{UserUnknown}
use Rattle.commands.specs.declared.answer.Outcome.{Outcome}
use Rattle.commands.specs.declared.answer.Outcome.TheVariants as outcome
use Rattle.commands.specs.declared.answer.RequestAnswer.{RequestAnswer}
use Rattle.commands.specs.declared.answer.Answer.{Answer}
use Rattle.commands.specs.declared.answer.Answer.TheVariants as answer
use Rattle.wire.specs.SpelledBalances.{balance_data}
use Rattle.json_fields.specs.declared.fault.WireFault.{WireFault}
use Rattle.json_fields.specs.declared.fault.WireFault.TheVariants.{NotRequest, Missing, Invalid}
use Rattle.json_fields.specs.declared.fault.WireFault.TheVariants.{Memory}
use Rattle.json_fields.specs.Spelling.{whole, perhaps, with_members, money_data}
use Rattle.json_fields.specs.Unit.{name_of_unit}

-- ---- services

-- units, and when the price changes where it does (Granted-Service-Unit, RFC 8506 section 8.17)
unfoldable pub granted_data : Measured → Option Moment → Data
granted_data quantity switch = object
    (member (name_of_unit quantity.kind) (whole quantity.units)
    (perhaps tariff_time_change (option_map whole switch) no_members))

-- Redirect-Server (RFC 8506 section 8.37): 2 is the type of a URL (section 8.38)
unfoldable pub server_data : List ℕ → Data
server_data address = object
    (member redirect_address_type (whole 2)
    (member redirect_server_address (string address) no_members))

-- Final-Unit-Indication (RFC 8506 section 8.34): 0 is TERMINATE, 1 is REDIRECT
abbrev pub final_data : FinalUnit → Data
final_data Terminate = object (member final_unit_action (whole 0) no_members)
final_data (Redirect address) = object
    (member final_unit_action (whole 1)
    (member redirect_server (server_data address) no_members))

abbrev pub final_of : ServiceOutcome → Option Data
final_of service.Settled = None
final_of (service.Granted g) = option_map final_data g.last
final_of (service.Debited quantity) = None
final_of (service.Failed failure) = None

abbrev pub granted_of : ServiceOutcome → Option Data
granted_of service.Settled = None
granted_of (service.Granted g) = Some (granted_data g.quantity g.switch)
granted_of (service.Debited quantity) = Some (granted_data quantity None)
granted_of (service.Failed failure) = None

abbrev pub validity_of : ServiceOutcome → Option Seconds
validity_of service.Settled = None
validity_of (service.Granted g) = Some g.validity
validity_of (service.Debited quantity) = None
validity_of (service.Failed failure) = None

-- 2001 is DIAMETER_SUCCESS
abbrev pub service_code : ServiceOutcome → ℕ
service_code service.Settled = 2001
service_code (service.Granted g) = 2001
service_code (service.Debited quantity) = 2001
service_code (service.Failed failure) = service_failure_number failure

unfoldable pub service_data : ServiceAnswer → Data
service_data s = object
    (perhaps final_unit (final_of s.outcome)
    (perhaps granted_unit (granted_of s.outcome)
    (member (name_of avp.RatingGroup) (whole s.group)
    (member result_code (whole (service_code s.outcome))
    (perhaps validity_time (option_map whole (validity_of s.outcome)) no_members)))))

abbrev pub service_items : List ServiceAnswer → Items
service_items [] = no_items
service_items (s ∷ ss) = item (service_data s) (service_items ss)

-- ---- requests

abbrev pub failure_named : Failure → List (List ℕ × Data)
failure_named (Denied failure) = []
failure_named UnknownSessionId = []
failure_named (InvalidAvpValue avp) = (failed_avp, string (name_of avp)) ∷ []
failure_named UnableToComply = []
failure_named UserUnknown = []

-- what is between the type and the Result-Code, each member by its name
abbrev pub outcome_named : Outcome → List (List ℕ × Data)
outcome_named (outcome.Services ss) = (name_of avp.Services, array (service_items ss)) ∷ []
outcome_named outcome.Refunded = []
outcome_named (outcome.Checked balance) =
    (check_balance_result, whole (balance_number balance)) ∷ []
outcome_named (outcome.Priced cost) = (cost_information, money_data cost.micros cost.currency) ∷ []
outcome_named (outcome.Failed failure) = failure_named failure

abbrev pub outcome_code : Outcome → ℕ
outcome_code (outcome.Services ss) = 2001
outcome_code outcome.Refunded = 2001
outcome_code (outcome.Checked balance) = 2001
outcome_code (outcome.Priced cost) = 2001
outcome_code (outcome.Failed failure) = failure_number failure

unfoldable pub request_answer_data : RequestAnswer → Data
request_answer_data a = object
    (member (name_of avp.RequestNumber) (whole a.number)
    (member (name_of avp.RequestType) (whole (kind_number a.kind))
    (with_members (outcome_named a.outcome)
    (member result_code (whole (outcome_code a.outcome))
    (member (name_of avp.SessionId) (string a.session) no_members)))))

-- ---- all answers

abbrev pub code_member : ℕ → Members
code_member code = member result_code (whole code) no_members

unfoldable pub answer_data : Answer → Data
answer_data (answer.Request a) = request_answer_data a
answer_data answer.Done = object (code_member 2001)
answer_data (answer.Bucket n) = object (member bucket (whole n) (code_member 2001))
answer_data (answer.Swept count) = object (member accounts (whole count) (code_member 2001))
answer_data (answer.Balance balance) = balance_data balance
answer_data (answer.Refused reason) =
    object (member refusal (string (refusal_name reason)) no_members)

-- the text of an answer
-- rule: answers: the text of an answer
-- rule: balance-text: the text of a balance
-- rule: http-unanswered
unfoldable pub answer_text : Answer → List ℕ
answer_text a = compact_text (answer_data a)

-- what a text is answered that isn't read: 5012 is DIAMETER_UNABLE_TO_COMPLY, 5005
-- DIAMETER_MISSING_AVP, 5004 DIAMETER_INVALID_AVP_VALUE
unfoldable pub fault_data : WireFault → Data
fault_data NotRequest = object (code_member 5012)
fault_data (Missing avp) = object (member failed_avp (string (name_of avp)) (code_member 5005))
fault_data (Invalid avp) = object (member failed_avp (string (name_of avp)) (code_member 5004))
fault_data Memory = object (code_member 5012)

-- rule: fault-answers: the answer to a body with a fault
-- rule: answers
unfoldable pub fault_text : WireFault → List ℕ
fault_text e = compact_text (fault_data e)
