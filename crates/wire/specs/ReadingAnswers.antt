-- Reading an answer that was written.
use Rattle.std.specs.Prelude.{◌≡◌, ℕ, ◌==◌, List, [], Bool, true, false, Option, Some}
use Rattle.std.specs.Prelude.{None, Result, Ok, Err, MatchResult, ◌⊎◌, nat_eq, if◌then◌else◌}
use Rattle.std.specs.Cmp.Lexicographic.{pointwise}
use Rattle.units.specs.Words.{Moment, Seconds, greatest_number, latest_moment, most_seconds}
use Rattle.units.specs.Words.{most_of_16_bits, most_of_64_bits}
use Rattle.serde_json.specs.Data.{Data, Items}
use Rattle.serde_json.specs.Find.{get}
use Rattle.identifiers.specs.Texts.{is_redirect_address}
use Rattle.commands.specs.declared.avp.Avp.TheVariants as avp
use Rattle.commands.specs.Names.{name_of, account, accounts, bucket, check_balance_result}
use Rattle.commands.specs.Names.{cost_information, failed_avp, final_unit, final_unit_action}
use Rattle.commands.specs.Names.{granted_unit, redirect_server, redirect_server_address, refusal}
use Rattle.commands.specs.Names.{result_code, tariff_time_change, validity_time, avp_named}
use Rattle.commands.specs.Codes.{service_failure_numbered, balance_numbered, refusal_named}
use Rattle.commands.specs.Measured.{Measured}
use Rattle.commands.specs.declared.answer.FinalUnit.{FinalUnit}
use Rattle.commands.specs.declared.answer.FinalUnit.TheVariants.{Terminate, Redirect}
use Rattle.commands.specs.declared.answer.GrantedServiceUnit.{GrantedServiceUnit}
use Rattle.commands.specs.declared.answer.ServiceOutcome.{ServiceOutcome}
use Rattle.commands.specs.declared.answer.ServiceOutcome.TheVariants as service
use Rattle.commands.specs.declared.answer.ServiceAnswer.{ServiceAnswer}
use Rattle.commands.specs.declared.answer.Balance.{Balance}
use Rattle.commands.specs.declared.answer.Cost.{Cost}
use Rattle.commands.specs.declared.answer.Failure.{Failure}
use Rattle.commands.specs.declared.answer.Failure.TheVariants.{Denied, UnknownSessionId}
use Rattle.commands.specs.declared.answer.Failure.TheVariants.{InvalidAvpValue, UnableToComply}
use Rattle.commands.specs.declared.answer.Failure.TheVariants.{UserUnknown}
use Rattle.commands.specs.declared.answer.Outcome.{Outcome}
use Rattle.commands.specs.declared.answer.Outcome.TheVariants as outcome
use Rattle.commands.specs.declared.answer.RequestAnswer.{RequestAnswer}
use Rattle.commands.specs.declared.answer.Answer.{Answer}
use Rattle.commands.specs.declared.answer.Answer.TheVariants as answer
use Rattle.json_fields.specs.declared.fault.WireFault.{WireFault}
use Rattle.json_fields.specs.declared.fault.WireFault.TheVariants.{Memory, NotRequest}
use Rattle.json_fields.specs.Gives.{◌>>=◌, or_fault, where_holds, read_each, Gives}
use Rattle.json_fields.specs.Fields.{number_at, optional_in, object_at, array_of, document_at}
use Rattle.json_fields.specs.Unit.{kind_told, units_at}
use Rattle.json_fields.specs.Order.{AreInByteOrder}
use Rattle.wire_requests.specs.Reading.{session_at, kind_at}
use Rattle.wire.specs.Members.{number_in, text_in, object_in}
use Rattle.wire.specs.ReadingBalances.{balance_at}
use Rattle.wire.specs.Rules.{IsAnswer}
use Rattle.wire.specs.Spelled.{answer_text}

-- ---- grants

-- the address of a Final-Unit-Indication that redirects
unfoldable pub redirect_at : Data → Result (List ℕ) WireFault
redirect_at d = do
  s ← object_in redirect_server d
  t ← text_in redirect_server_address s
  where_holds (is_redirect_address t) NotRequest t

unfoldable pub final_told : ℕ → Data → Result FinalUnit WireFault
final_told n d = if n == 0 then Ok Terminate else (redirect_at d >>= λ a. Ok (Redirect a))

unfoldable pub final_in : Data → Result FinalUnit WireFault
final_in d = do
  n ← number_in final_unit_action 0 1 d
  final_told n d

abbrev pub final_when : Option Data → Result (Option FinalUnit) WireFault
final_when None = Ok None
final_when (Some v) = final_in v >>= λ f. Ok (Some f)

unfoldable pub final_at : Data → Result (Option FinalUnit) WireFault
final_at d = final_when (get final_unit d)

-- the units that a Granted-Service-Unit holds
unfoldable pub quantity_in : Data → Result Measured WireFault
quantity_in g = do
  kind ← or_fault NotRequest (kind_told g)
  n ← units_at NotRequest 1 kind g
  Ok (record { kind = kind; units = n })

-- when the price of a grant changes, where it does
abbrev pub switch_at : Data → Result (Option Moment) WireFault
switch_at g = optional_in tariff_time_change NotRequest 0 latest_moment g

unfoldable pub session_grant_in : Measured → Seconds → Data → Data → Result ServiceOutcome WireFault
session_grant_in quantity validity d g = do
  switch ← switch_at g
  last ← final_at d
  Ok (service.Granted
      (record { quantity = quantity; switch = switch; validity = validity; last = last }))

abbrev pub granted_when : Data → Data → Measured → Option Seconds → Result ServiceOutcome WireFault
granted_when d g quantity None = Ok (service.Debited quantity)
granted_when d g quantity (Some validity) = session_grant_in quantity validity d g

-- the grant g of the service d: a session's has a validity time
unfoldable pub granted_in : Data → Data → Result ServiceOutcome WireFault
granted_in d g = do
  quantity ← quantity_in g
  validity ← optional_in validity_time NotRequest 0 most_seconds d
  granted_when d g quantity validity

-- ---- services

abbrev pub success_when : Data → Option Data → Result ServiceOutcome WireFault
success_when d None = Ok service.Settled
success_when d (Some g) = granted_in d g

unfoldable pub service_told : ℕ → Data → Result ServiceOutcome WireFault
service_told n d =
    if n == 2001 then success_when d (get (granted_unit) d)
    else (or_fault NotRequest (service_failure_numbered n) >>= λ f. Ok (service.Failed f))

unfoldable pub service_answer_at : Data → Result ServiceAnswer WireFault
service_answer_at d = do
  g ← number_at avp.RatingGroup 0 greatest_number d
  n ← number_in result_code 0 9999 d
  o ← service_told n d
  Ok (record { group = g; outcome = o })

abbrev pub services_from : Items → Result (List ServiceAnswer) WireFault
services_from ds = read_each (λ _ d. service_answer_at d) [] ds

unfoldable pub services_in : Data → Result (List ServiceAnswer) WireFault
services_in v = do
  ds ← array_of avp.Services v
  services_from ds

-- ---- requests

unfoldable pub failed_at : Data → Result Failure WireFault
failed_at d = do
  s ← text_in failed_avp d
  a ← or_fault NotRequest (avp_named s)
  Ok (InvalidAvpValue a)

unfoldable pub failure_told : ℕ → Data → Result Failure WireFault
failure_told n d =
    if n == 5002 then Ok UnknownSessionId
    else (if n == 5004 then failed_at d
    else (if n == 5012 then Ok UnableToComply
    else (if n == 5030 then Ok UserUnknown
    else (or_fault NotRequest (service_failure_numbered n) >>= λ f. Ok (Denied f)))))

unfoldable pub cost_in : Data → Result Cost WireFault
cost_in d = do
  u ← object_at avp.UnitValue d
  micros ← number_at avp.ValueDigits 0 most_of_64_bits u
  currency ← number_at avp.CurrencyCode 0 most_of_16_bits d
  Ok (record { micros = micros; currency = currency })

abbrev pub priced_when : Option Data → Result Outcome WireFault
priced_when None = Ok outcome.Refunded
priced_when (Some v) = cost_in v >>= λ c. Ok (outcome.Priced c)

abbrev pub checked_when : Data → Option ℕ → Result Outcome WireFault
checked_when d (Some n) = or_fault NotRequest (balance_numbered n) >>= λ b. Ok (outcome.Checked b)
checked_when d None = priced_when (get (cost_information) d)

-- an answer without services
unfoldable pub unserved_in : Data → Result Outcome WireFault
unserved_in d = do
  balance ← optional_in check_balance_result NotRequest 0 1 d
  checked_when d balance

abbrev pub served_when : Data → Option Data → Result Outcome WireFault
served_when d (Some v) = services_in v >>= λ ss. Ok (outcome.Services ss)
served_when d None = unserved_in d

unfoldable pub outcome_told : ℕ → Data → Result Outcome WireFault
outcome_told n d =
    if n == 2001 then served_when d (get (name_of avp.Services) d)
    else (failure_told n d >>= λ f. Ok (outcome.Failed f))

unfoldable pub request_answer_at : Data → Result RequestAnswer WireFault
request_answer_at d = do
  session ← session_at d
  kind ← kind_at d
  number ← number_at avp.RequestNumber 0 greatest_number d
  n ← number_in result_code 0 9999 d
  outcome ← outcome_told n d
  Ok (record { session = session; kind = kind; number = number; outcome = outcome })

-- ---- all answers

unfoldable pub refusal_at : Data → Result Answer WireFault
refusal_at d = do
  s ← text_in refusal d
  r ← or_fault NotRequest (refusal_named s)
  Ok (answer.Refused r)

abbrev pub swept_when : Option ℕ → Answer
swept_when None = answer.Done
swept_when (Some n) = answer.Swept n

abbrev pub bucket_when : Data → Option ℕ → Result Answer WireFault
bucket_when d (Some n) = Ok (answer.Bucket n)
bucket_when d None = do
  count ← optional_in accounts NotRequest 0 most_of_64_bits d
  Ok (swept_when count)

-- an answer with a Result-Code and no Session-Id
unfoldable pub done_at : Data → Result Answer WireFault
done_at d = do
  code ← number_in result_code 2001 2001 d
  number ← optional_in bucket NotRequest 0 greatest_number d
  bucket_when d number

abbrev pub balance_when : Data → Option Data → Result Answer WireFault
balance_when d None = done_at d
balance_when d (Some v) = balance_at d >>= λ a. Ok (answer.Balance a)

abbrev pub refused_when : Data → Option Data → Result Answer WireFault
refused_when d None = balance_when d (get (account) d)
refused_when d (Some v) = refusal_at d

abbrev pub answer_when : Data → Option Data → Result Answer WireFault
answer_when d (Some v) = request_answer_at d >>= λ a. Ok (answer.Request a)
answer_when d None = refused_when d (get (refusal) d)

-- the answer that the bytes are
unfoldable pub answer_of : List ℕ → Result Answer WireFault
answer_of bytes = do
  d ← document_at bytes
  answer_when d (get (name_of avp.SessionId) d)

-- the answer that a text says, where it says one
abbrev pub said_or_done : Result Answer WireFault → Answer
said_or_done (Ok a) = a
said_or_done (Err e) = answer.Done

abbrev pub answer_said : List ℕ → Answer
answer_said bytes = said_or_done (answer_of bytes)

-- an operator's command is refused
abbrev pub is_refusal : Answer → Bool
is_refusal (answer.Request r) = false
is_refusal answer.Done = false
is_refusal (answer.Bucket number) = false
is_refusal (answer.Swept count) = false
is_refusal (answer.Balance balance) = false
is_refusal (answer.Refused r) = true

-- what is written is read again
-- rule: answers.answers-read-again: a written answer is read again
abbrev pub AnswersReadAgain : (Answer → List ℕ) → Type 0
AnswersReadAgain text = (a : Answer) → IsAnswer a → answer_of (text a) ≡ Ok a

-- a text that was written is read as its answer, unless memory runs out
-- rule: answers.reads-written: an answer that is read is the text that was written, and another
--   text is reported as none
abbrev pub ReadsWritten : List ℕ → Result Answer WireFault → Type 0
ReadsWritten bytes returned =
    (a : Answer) → IsAnswer a → answer_text a ≡ bytes → Gives (λ x. x) returned (Ok a)

-- whether bytes are the text of the answer that they say
abbrev pub is_own_answer : List ℕ → Result Answer WireFault → Bool
is_own_answer bytes (Ok a) = pointwise nat_eq (answer_text a) bytes
is_own_answer bytes (Err e) = false

-- whether bytes are the text of an answer, as it is written
abbrev pub is_answer_text : List ℕ → Bool
is_answer_text bytes = is_own_answer bytes (answer_of bytes)

-- such a text is read, and of any other it is reported that it is none, unless memory runs out
-- rule: answers.reads-written
abbrev pub ReadsTexts : List ℕ → Result Answer WireFault → Type 0
ReadsTexts bytes returned =
    MatchResult returned (λ a. is_answer_text bytes ≡ true)
    (λ e. (e ≡ Memory) ⊎ ((e ≡ NotRequest) × (is_answer_text bytes ≡ false)))

-- what was written has its members in byte order
abbrev pub AnswersAreInOrder : (Answer → Data) → Type 0
AnswersAreInOrder spelled = (a : Answer) → IsAnswer a → AreInByteOrder (spelled a)
