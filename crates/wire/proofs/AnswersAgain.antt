-- What is written for an answer is read as that answer.
use Rattle.std.proofs.Common.{subst, ◌≡◌, ℕ, ◌≤◌, lit≤, List, [], ◌∷◌, ◌++◌}
use Rattle.std.proofs.Common.{length, Bool, true, false, Option, Some, None, option_map}
use Rattle.std.proofs.Common.{IfSome, Result, Ok, Err, refl, sym, ap, ◌∙◌, arith, append_assoc}
use Rattle.std.proofs.Common.{append-nil, nat_le, ◌⊎◌, inl, inr}
use Rattle.std.specs.Prelude.{nat_eq}
use Rattle.std.specs.List.{AllByRecursion, list_all}
use Rattle.std.specs.Str.{IsUtf8}
use Rattle.std.specs.Ordering.{nat_cmp}
use Rattle.std.specs.declared.cmp.Ordering.TheVariants.{Greater}
use Rattle.std.specs.Cmp.Lexicographic.{bytes_decides, pointwise, slice_cmp}
use Rattle.json.proofs.Printed.Utf8.{are_ascii, IsUtf8-are_ascii}
use Rattle.serde_json.specs.Data.{Data, string, array, object, Members, no_members, member}
use Rattle.serde_json.specs.Find.{get}
use Rattle.units.specs.declared.blocks.UnitKind.{UnitKind}
use Rattle.units.specs.declared.blocks.UnitKind.TheVariants as unit
use Rattle.identifiers.specs.Texts.{is_visible, is_session_id, is_redirect_address}
use Rattle.commands.specs.declared.avp.Avp.{Avp}
use Rattle.commands.specs.declared.avp.Avp.TheVariants as avp
use Rattle.commands.specs.Names.{name_of, cost_information, validity_time, final_unit, refusal}
use Rattle.commands.specs.Names.{tariff_time_change, granted_unit, failed_avp, check_balance_result}
use Rattle.commands.specs.Names.{bucket, accounts, result_code, final_unit_action, redirect_server}
use Rattle.commands.specs.Names.{redirect_server_address}
use Rattle.commands.specs.Quantities.{most_units, is_quantity}
use Rattle.commands.specs.Measured.{Measured}
use Rattle.commands.specs.Codes.{kind_number, service_failure_number, balance_number, refusal_name}
use Rattle.commands.specs.declared.request.RequestKind.TheVariants as kind
use Rattle.commands.specs.declared.answer.FinalUnit.{FinalUnit}
use Rattle.commands.specs.declared.answer.FinalUnit.TheVariants.{Terminate, Redirect}
use Rattle.commands.specs.declared.answer.GrantedServiceUnit.{GrantedServiceUnit}
use Rattle.commands.specs.declared.answer.ServiceFailure.{ServiceFailure}
use Rattle.commands.specs.declared.answer.ServiceFailure.TheVariants.{EndUserServiceDenied}
use Rattle.commands.specs.declared.answer.ServiceFailure.TheVariants.{CreditLimitReached}
use Rattle.commands.specs.declared.answer.ServiceFailure.TheVariants.{RatingFailed}
use Rattle.commands.specs.declared.answer.ServiceOutcome.{ServiceOutcome}
use Rattle.commands.specs.declared.answer.ServiceOutcome.TheVariants as service
use Rattle.commands.specs.declared.answer.ServiceAnswer.{ServiceAnswer}
use Rattle.commands.specs.declared.answer.Balance.{Balance}
use Rattle.commands.specs.declared.answer.Balance.TheVariants.{EnoughCredit, NoCredit}
use Rattle.commands.specs.declared.answer.Cost.{Cost}
use Rattle.commands.specs.declared.answer.Failure.{Failure}
use Rattle.commands.specs.declared.answer.Failure.TheVariants.{Denied, UnknownSessionId}
use Rattle.commands.specs.declared.answer.Failure.TheVariants.{InvalidAvpValue, UnableToComply}
use Rattle.commands.specs.declared.answer.Failure.TheVariants.{UserUnknown}
use Rattle.commands.specs.declared.answer.Outcome.{Outcome}
use Rattle.commands.specs.declared.answer.Outcome.TheVariants as outcome
use Rattle.commands.specs.declared.answer.RequestAnswer.{RequestAnswer}
use Rattle.commands.specs.declared.answer.Refusal.{Refusal}
use Rattle.commands.specs.declared.answer.Refusal.TheVariants.{AccountExists, AccountUnknown}
use Rattle.commands.specs.declared.answer.Refusal.TheVariants.{VoucherUnknown, VoucherSpent}
use Rattle.commands.specs.declared.answer.Refusal.TheVariants.{ContentDiffers, OutOfRange}
use Rattle.commands.specs.declared.answer.Refusal.TheVariants.{ScopeUnknown}
use Rattle.commands.specs.declared.answer.Answer.{Answer}
use Rattle.commands.specs.declared.answer.Answer.TheVariants as answer
use Rattle.json_fields.specs.declared.fault.WireFault.{WireFault}
use Rattle.json_fields.specs.declared.fault.WireFault.TheVariants.{NotRequest, Memory}
use Rattle.texts.specs.Steps.{each}
use Rattle.json_fields.specs.Gives.{read_each, Gives}
use Rattle.json_fields.proofs.Kept.{same_value}
use Rattle.json_fields.proofs.Order.{in_order}
use Rattle.json_fields.specs.Fields.{optional_in, array_of}
use Rattle.json_fields.specs.Unit.{name_of_unit, kind_told, units_at}
use Rattle.json_fields.specs.Spelling.{whole, perhaps, with_members, value_data, money_data}
use Rattle.json_fields.proofs.Compact.{Above}
use Rattle.json_fields.proofs.Found.{get_skip, get_here, number_found, from_zero, optional_in_found}
use Rattle.json_fields.proofs.Found.{object_found, units_found}
use Rattle.json_fields.proofs.Fit.{Fit, FitItems, FitMembers, fit_whole, fit_text, fit_object}
use Rattle.json_fields.proofs.Fit.{fit_array, fit_no_items, fit_item, fit_none, fit_member}
use Rattle.json_fields.proofs.Fit.{fit_perhaps, fit_optional, fit_deeper, fit_money, above_perhaps}
use Rattle.json_fields.proofs.Fit.{document_again, ascii_text}
use Rattle.wire_requests.proofs.RequestsAgain.{and_three, session_utf8, visible_small, quantity_low}
use Rattle.wire_requests.proofs.RequestsAgain.{quantity_high, session_again, kind_again, unit_ascii}
use Rattle.wire_requests.proofs.RequestsAgain.{kind_small}
use Rattle.commands.proofs.Inverses.{are_tables}
use Rattle.commands.proofs.Amounts.{most_small}
use Rattle.wire.specs.Members.{number_in, text_in, object_in}
use Rattle.wire.specs.Spelled.{granted_data, server_data, final_data, final_of, granted_of}
use Rattle.wire.specs.Spelled.{validity_of, service_code, service_data, service_items}
use Rattle.wire.specs.Spelled.{failure_named, outcome_named, outcome_code}
use Rattle.wire.specs.Spelled.{request_answer_data, code_member, answer_data, answer_text}
use Rattle.wire.specs.SpelledBalances.{balance_data}
use Rattle.wire.proofs.BalancesAgain.{balance_members, account_balance_again}
use Rattle.wire.proofs.BalancesAgain.{account_balance_fit, number_in_found}
use Rattle.wire.specs.Rules.{IsFinal, IsGrant, IsServiceOutcome, IsServiceAnswer, IsCost}
use Rattle.wire.specs.Rules.{IsOutcome, IsRequestAnswer, IsAnswer}
use Rattle.wire.specs.ReadingAnswers.{redirect_at, final_told, final_in, final_when}
use Rattle.wire.specs.ReadingAnswers.{final_at, quantity_in, session_grant_in}
use Rattle.wire.specs.ReadingAnswers.{granted_in, service_told, service_answer_at, services_in}
use Rattle.wire.specs.ReadingAnswers.{failed_at, failure_told, cost_in, unserved_in, outcome_told}
use Rattle.wire.specs.ReadingAnswers.{request_answer_at, refusal_at, done_at}
use Rattle.wire.specs.ReadingAnswers.{answer_of, AnswersReadAgain}
use Rattle.wire.specs.ReadingAnswers.{ReadsWritten, AnswersAreInOrder, is_answer_text}
use Rattle.wire.specs.ReadingAnswers.{is_own_answer}

-- ---- members

text_in_found : (name : List ℕ) (d : Data) (s : List ℕ) → get name d ≡ Some (string s) →
    text_in name d ≡ Ok s
unfolding text_in
text_in_found name d s e = rw e refl

object_in_found : (name : List ℕ) (d : Data) (ms : Members) → get name d ≡ Some (object ms) →
    object_in name d ≡ Ok (object ms)
unfolding object_in
object_in_found name d ms e = rw e refl

-- ---- a grant

abbrev unit_members : UnitKind → ℕ → Option ℕ → Data
unit_members k n switch = object (member (name_of_unit k) (whole n)
    (perhaps tariff_time_change (option_map whole switch) no_members))

kind_told_again : (k : UnitKind) (n : ℕ) (switch : Option ℕ) →
    kind_told (unit_members k n switch) ≡ Some k
unfolding kind_told
kind_told_again unit.Time n None = refl
kind_told_again unit.Time n (Some s) = refl
kind_told_again unit.TotalOctets n None = refl
kind_told_again unit.TotalOctets n (Some s) = refl
kind_told_again unit.ServiceSpecific n None = refl
kind_told_again unit.ServiceSpecific n (Some s) = refl

units_again : (k : UnitKind) (n : ℕ) (switch : Option ℕ) → 1 ≤ n → n ≤ most_units k →
    units_at NotRequest 1 k (unit_members k n switch) ≡ Ok n
units_again unit.Time n None l h = units_found NotRequest 1 unit.Time _ n refl refl l h
units_again unit.Time n (Some s) l h = units_found NotRequest 1 unit.Time _ n refl refl l h
units_again unit.TotalOctets n None l h =
    units_found NotRequest 1 unit.TotalOctets _ n refl refl l h
units_again unit.TotalOctets n (Some s) l h =
    units_found NotRequest 1 unit.TotalOctets _ n refl refl l h
units_again unit.ServiceSpecific n None l h =
    units_found NotRequest 1 unit.ServiceSpecific _ n refl refl l h
units_again unit.ServiceSpecific n (Some s) l h =
    units_found NotRequest 1 unit.ServiceSpecific _ n refl refl l h

switch_found : (k : UnitKind) (n : ℕ) (switch : Option ℕ) →
    get (tariff_time_change) (unit_members k n switch) ≡ option_map whole switch
switch_found unit.Time n None = refl
switch_found unit.Time n (Some s) = refl
switch_found unit.TotalOctets n None = refl
switch_found unit.TotalOctets n (Some s) = refl
switch_found unit.ServiceSpecific n None = refl
switch_found unit.ServiceSpecific n (Some s) = refl

switch_again : (q : Measured) (switch : Option ℕ) → IfSome switch (λ m. m ≤ 4102488000) →
    optional_in tariff_time_change NotRequest 0 4102488000 (granted_data q switch) ≡ Ok switch
unfolding granted_data
switch_again q switch h = optional_in_found tariff_time_change NotRequest 0 4102488000
    (unit_members q.kind q.units switch) switch (switch_found q.kind q.units switch)
    (from_zero 4102488000 switch h)

quantity_again : (q : Measured) (switch : Option ℕ) → is_quantity q.kind q.units ≡ true →
    quantity_in (granted_data q switch) ≡ Ok q
unfolding quantity_in granted_data
quantity_again q switch is = rw (
  kind_told_again q.kind q.units switch,
  units_again q.kind q.units switch (quantity_low q is) (quantity_high q is),
) refl

redirect_again : (address : List ℕ) → is_redirect_address address ≡ true →
    redirect_at (final_data (Redirect address)) ≡ Ok address
unfolding redirect_at server_data
redirect_again address h =
    let d = final_data (Redirect address) in
    let s = server_data address in
    rw (
      object_in_found redirect_server d _ refl,
      text_in_found redirect_server_address s address refl,
      h,
    ) refl

final_again : (f : FinalUnit) → IsFinal f → final_in (final_data f) ≡ Ok f
unfolding final_in final_told
final_again Terminate is = rw (number_in_found final_unit_action 0 1 (final_data Terminate) 0 refl
    (omega arith) (omega arith)) refl
final_again (Redirect address) is = rw (
  number_in_found final_unit_action 0 1 (final_data (Redirect address)) 1 refl (omega arith)
      (omega arith),
  redirect_again address is,
) refl

final_when_again : (o : Option FinalUnit) → IfSome o IsFinal →
    final_when (option_map final_data o) ≡ Ok o
final_when_again None is = refl
final_when_again (Some f) is = rw (final_again f is) refl

-- ---- a service

abbrev service_members : ℕ → ℕ → Option Data → Option Data → Option Data → Data
service_members g code last grant validity = object
    (perhaps final_unit last
    (perhaps granted_unit grant
    (member (name_of avp.RatingGroup) (whole g)
    (member result_code (whole code)
    (perhaps validity_time validity no_members)))))

module _ (g code : ℕ) (last grant validity : Option Data) where
  group_is : get (name_of avp.RatingGroup) (service_members g code last grant validity)
      ≡ Some (whole g)
  group_is = get_skip (name_of avp.RatingGroup) final_unit last _ refl
      ∙ get_skip (name_of avp.RatingGroup) granted_unit grant _ refl

  code_is : get (result_code) (service_members g code last grant validity) ≡ Some (whole code)
  code_is = get_skip result_code final_unit last _ refl
      ∙ get_skip result_code granted_unit grant _ refl

  validity_is : get (validity_time) (service_members g code last grant validity) ≡ validity
  validity_is = get_skip validity_time final_unit last _ refl
      ∙ get_skip validity_time granted_unit grant _ refl
      ∙ get_here validity_time validity no_members refl refl

  last_is : get (final_unit) (service_members g code last grant validity) ≡ last
  last_is = get_here final_unit last _ refl (get_skip final_unit granted_unit grant _ refl
      ∙ get_skip final_unit validity_time validity no_members refl)

  grant_is : get (granted_unit) (service_members g code last grant validity) ≡ grant
  grant_is = get_skip granted_unit final_unit last _ refl ∙ get_here granted_unit grant _ refl
      (get_skip granted_unit validity_time validity no_members refl)

granted_again : (n : ℕ) (g : GrantedServiceUnit) → IsGrant g → g.validity ≤ 4294967295 →
    granted_in (service_members n 2001 (option_map final_data g.last)
    (Some (granted_data g.quantity g.switch)) (Some (whole g.validity)))
    (granted_data g.quantity g.switch) ≡ Ok (service.Granted g)
unfolding granted_in session_grant_in final_at
granted_again n g is v =
    let last = option_map final_data g.last in
    let grant = Some (granted_data g.quantity g.switch) in
    let validity = Some (whole g.validity) in
    let d = service_members n 2001 last grant validity in
    rw (
      quantity_again g.quantity g.switch is.quantity,
      optional_in_found validity_time NotRequest 0 4294967295 d (Some g.validity)
          (validity_is n 2001 last grant validity) (omega arith, v),
      switch_again g.quantity g.switch is.switch,
      last_is n 2001 last grant validity,
      final_when_again g.last is.last,
    ) refl

debited_again : (n : ℕ) (q : Measured) → is_quantity q.kind q.units ≡ true →
    granted_in (service_members n 2001 None (Some (granted_data q None)) None) (granted_data q None)
    ≡ Ok (service.Debited q)
unfolding granted_in
debited_again n q is =
    let d = service_members n 2001 None (Some (granted_data q None)) None in
    rw (
      quantity_again q None is,
      optional_in_found validity_time NotRequest 0 4294967295 d None refl tt,
    ) refl

failure_small : (f : ServiceFailure) → service_failure_number f ≤ 9999
failure_small EndUserServiceDenied = lit≤ tt
failure_small CreditLimitReached = lit≤ tt
failure_small RatingFailed = lit≤ tt

failed_again : (f : ServiceFailure) (d : Data) →
    service_told (service_failure_number f) d ≡ Ok (service.Failed f)
unfolding service_told
failed_again EndUserServiceDenied d = refl
failed_again CreditLimitReached d = refl
failed_again RatingFailed d = refl

code_low : (o : ServiceOutcome) → service_code o ≤ 9999
code_low service.Settled = lit≤ tt
code_low (service.Granted g) = lit≤ tt
code_low (service.Debited q) = lit≤ tt
code_low (service.Failed f) = failure_small f

abbrev data_of : ℕ → ServiceOutcome → Data
data_of g o = service_members g (service_code o) (final_of o) (granted_of o)
    (option_map whole (validity_of o))

told_again : (n : ℕ) (o : ServiceOutcome) → IfSome (validity_of o) (λ v. v ≤ 4294967295) →
    IsServiceOutcome o → service_told (service_code o) (data_of n o) ≡ Ok o
unfolding service_told
told_again n service.Settled v is = refl
told_again n (service.Granted g) v is =
    rw (
      grant_is n 2001 (option_map final_data g.last) (Some (granted_data g.quantity g.switch))
          (Some (whole g.validity)),
      granted_again n g is v,
    ) refl
told_again n (service.Debited q) v is = rw (debited_again n q is) refl
told_again n (service.Failed f) v is = failed_again f (data_of n (service.Failed f))

service_again : (s : ServiceAnswer) → IsServiceAnswer s → service_answer_at (service_data s) ≡ Ok s
unfolding service_answer_at service_data
service_again s is =
    let o = s.outcome in
    let last = final_of o in
    let grant = granted_of o in
    let validity = option_map whole (validity_of o) in
    let d = data_of s.group o in
    rw (
      number_found avp.RatingGroup 0 4294967295 d s.group
          (group_is s.group (service_code o) last grant validity) (omega arith) is.group,
      number_in_found result_code 0 9999 d (service_code o)
          (code_is s.group (service_code o) last grant validity) (omega arith) (code_low o),
      told_again s.group o is.validity is.outcome,
    ) refl

each_again : (done ss : List ServiceAnswer) → AllByRecursion IsServiceAnswer ss →
    read_each (λ _ d. service_answer_at d) done (service_items ss) ≡ Ok (done ++ ss)
unfolding each
each_again done [] is = ap Ok (sym (append-nil done))
each_again done (s ∷ ss) is = rw (service_again s is.0)
    (each_again (done ++ s ∷ []) ss is.1 ∙ ap Ok (append_assoc done (s ∷ []) ss))

-- ---- a request

-- the members from the Result-Code on
abbrev end_members : ℕ → List ℕ → Members
end_members code session =
    member result_code (whole code) (member (name_of avp.SessionId) (string session) no_members)

abbrev request_members : ℕ → ℕ → Outcome → List ℕ → Members
request_members n k o session = member (name_of avp.RequestNumber) (whole n)
    (member (name_of avp.RequestType) (whole k)
    (with_members (outcome_named o) (end_members (outcome_code o) session)))

session_found : (n k : ℕ) (o : Outcome) (session : List ℕ) →
    get (name_of avp.SessionId) (object (request_members n k o session)) ≡ Some (string session)
session_found n k (outcome.Services ss) session = refl
session_found n k outcome.Refunded session = refl
session_found n k (outcome.Checked b) session = refl
session_found n k (outcome.Priced c) session = refl
session_found n k (outcome.Failed (Denied f)) session = refl
session_found n k (outcome.Failed UnknownSessionId) session = refl
session_found n k (outcome.Failed (InvalidAvpValue a)) session = refl
session_found n k (outcome.Failed UnableToComply) session = refl
session_found n k (outcome.Failed UserUnknown) session = refl

code_found : (n k : ℕ) (o : Outcome) (session : List ℕ) →
    get (result_code) (object (request_members n k o session)) ≡ Some (whole (outcome_code o))
code_found n k (outcome.Services ss) session = refl
code_found n k outcome.Refunded session = refl
code_found n k (outcome.Checked b) session = refl
code_found n k (outcome.Priced c) session = refl
code_found n k (outcome.Failed (Denied f)) session = refl
code_found n k (outcome.Failed UnknownSessionId) session = refl
code_found n k (outcome.Failed (InvalidAvpValue a)) session = refl
code_found n k (outcome.Failed UnableToComply) session = refl
code_found n k (outcome.Failed UserUnknown) session = refl

code_small : (o : Outcome) → outcome_code o ≤ 9999
code_small (outcome.Services ss) = lit≤ tt
code_small outcome.Refunded = lit≤ tt
code_small (outcome.Checked b) = lit≤ tt
code_small (outcome.Priced c) = lit≤ tt
code_small (outcome.Failed (Denied f)) = failure_small f
code_small (outcome.Failed UnknownSessionId) = lit≤ tt
code_small (outcome.Failed (InvalidAvpValue a)) = lit≤ tt
code_small (outcome.Failed UnableToComply) = lit≤ tt
code_small (outcome.Failed UserUnknown) = lit≤ tt

cost_again : (c : Cost) → IsCost c → cost_in (money_data c.micros c.currency) ≡ Ok c
unfolding cost_in money_data value_data
cost_again c is =
    let d = money_data c.micros c.currency in
    rw (
      object_found avp.UnitValue d _ refl,
      number_found avp.ValueDigits 0 18446744073709551615 (value_data c.micros) c.micros refl
          (omega arith) is.micros,
      number_found avp.CurrencyCode 0 65535 d c.currency refl (omega arith) is.currency,
    ) refl

denied_again : (f : ServiceFailure) (d : Data) →
    outcome_told (service_failure_number f) d ≡ Ok (outcome.Failed (Denied f))
unfolding outcome_told failure_told
denied_again EndUserServiceDenied d = refl
denied_again CreditLimitReached d = refl
denied_again RatingFailed d = refl

outcome_again : (n k : ℕ) (o : Outcome) (session : List ℕ) → IsOutcome o →
    outcome_told (outcome_code o) (object (request_members n k o session)) ≡ Ok o
unfolding outcome_told unserved_in services_in array_of failure_told failed_at
outcome_again n k (outcome.Services ss) session is = rw (each_again [] ss is) refl
outcome_again n k outcome.Refunded session is = rw (optional_in_found check_balance_result
    NotRequest 0 1 (object (request_members n k outcome.Refunded session)) None refl tt) refl
outcome_again n k (outcome.Checked EnoughCredit) session is =
    rw (optional_in_found check_balance_result NotRequest 0 1
    (object (request_members n k (outcome.Checked EnoughCredit) session)) (Some 0) refl (
      omega arith,
      omega arith,
    )) refl
outcome_again n k (outcome.Checked NoCredit) session is = rw (optional_in_found check_balance_result
    NotRequest 0 1 (object (request_members n k (outcome.Checked NoCredit) session)) (Some 1) refl (
      omega arith,
      omega arith,
    )) refl
outcome_again n k (outcome.Priced c) session is = rw (
  optional_in_found check_balance_result NotRequest 0 1
      (object (request_members n k (outcome.Priced c) session)) None refl tt,
  cost_again c is,
) refl
outcome_again n k (outcome.Failed (Denied f)) session is =
    denied_again f (object (request_members n k (outcome.Failed (Denied f)) session))
outcome_again n k (outcome.Failed UnknownSessionId) session is = refl
outcome_again n k (outcome.Failed (InvalidAvpValue a)) session is = rw (
  text_in_found failed_avp
      (object (request_members n k (outcome.Failed (InvalidAvpValue a)) session)) (name_of a) refl,
  are_tables.avps.there a,
) refl
outcome_again n k (outcome.Failed UnableToComply) session is = refl
outcome_again n k (outcome.Failed UserUnknown) session is = refl

request_again : (a : RequestAnswer) → IsRequestAnswer a →
    request_answer_at (object (request_members a.number (kind_number a.kind) a.outcome a.session))
    ≡ Ok a
unfolding request_answer_at
request_again a is =
    let d = object (request_members a.number (kind_number a.kind) a.outcome a.session) in
    rw (
      session_again d a.session
          (session_found a.number (kind_number a.kind) a.outcome a.session) is.session,
      kind_again a.kind d refl,
      number_found avp.RequestNumber 0 4294967295 d a.number refl (omega arith) is.number,
      number_in_found result_code 0 9999 d (outcome_code a.outcome) (code_found a.number
          (kind_number a.kind) a.outcome a.session) (omega arith) (code_small a.outcome),
      outcome_again a.number (kind_number a.kind) a.outcome a.session is.outcome,
    ) refl

-- ---- how deep it is

name : (s : List ℕ) → are_ascii s ≡ true → IsUtf8 s
name = IsUtf8-are_ascii

unit_above : (k : UnitKind) → slice_cmp nat_cmp tariff_time_change (name_of_unit k) ≡ Greater
unit_above unit.Time = refl
unit_above unit.TotalOctets = refl
unit_above unit.ServiceSpecific = refl

granted_fit : (q : Measured) (switch : Option ℕ) → is_quantity q.kind q.units ≡ true →
    IfSome switch (λ m. m ≤ 4102488000) → Fit 1 (granted_data q switch)
unfolding granted_data
granted_fit q switch is s =
    let told = option_map whole switch in
    let small : q.units ≤ 18446744073709551615 =
    omega (arith, quantity_high q is, most_small q.kind) in
    fit_object 0 _ (fit_member 0 (name_of_unit q.kind) (whole q.units)
    (perhaps tariff_time_change told no_members) (unit_ascii q.kind) (fit_whole 0 q.units small)
    (above_perhaps (name_of_unit q.kind) tariff_time_change told no_members (unit_above q.kind) tt)
    (fit_perhaps 0 tariff_time_change told no_members refl
    (fit_optional 0 4102488000 switch (lit≤ tt) s) tt (fit_none 0)))

address_utf8 : (s : List ℕ) → is_redirect_address s ≡ true → IsUtf8 s
address_utf8 s h = name s (ascii_text is_visible visible_small s
    (and_three (nat_le 1 (length s)) (nat_le (length s) 200) (list_all is_visible s) h).2)

server_fit : (address : List ℕ) → is_redirect_address address ≡ true → Fit 1 (server_data address)
unfolding server_data
server_fit address h = fit_object 0 _
    (fit_member 0 _ (whole 2) _ refl (fit_whole 0 2 (lit≤ tt)) (refl, tt) (fit_member 0 _
    (string address) no_members refl (fit_text 0 address (address_utf8 address h)) tt (fit_none 0)))

final_fit : (f : FinalUnit) → IsFinal f → Fit 2 (final_data f)
final_fit Terminate is = fit_object 1 _
    (fit_member 1 _ (whole 0) no_members refl (fit_whole 1 0 (lit≤ tt)) tt (fit_none 1))
final_fit (Redirect address) is =
    fit_object 1 _ (fit_member 1 _ (whole 1) _ refl (fit_whole 1 1 (lit≤ tt)) (refl, tt)
    (fit_member 1 _ (server_data address) no_members refl (server_fit address is) tt (fit_none 1)))

last_fit : (o : Option FinalUnit) → IfSome o IsFinal → IfSome (option_map final_data o) (Fit 2)
last_fit None is = tt
last_fit (Some f) is = final_fit f is

lasts_fit : (o : ServiceOutcome) → IsServiceOutcome o → IfSome (final_of o) (Fit 2)
lasts_fit service.Settled is = tt
lasts_fit (service.Granted g) is = last_fit g.last is.last
lasts_fit (service.Debited q) is = tt
lasts_fit (service.Failed f) is = tt

grants_fit : (o : ServiceOutcome) → IsServiceOutcome o → IfSome (granted_of o) (Fit 2)
grants_fit service.Settled is = tt
grants_fit (service.Granted g) is =
    fit_deeper 1 2 _ (lit≤ tt) (granted_fit g.quantity g.switch is.quantity is.switch)
grants_fit (service.Debited q) is = fit_deeper 1 2 _ (lit≤ tt) (granted_fit q None is tt)
grants_fit (service.Failed f) is = tt

members_fit : (g code : ℕ) (last grant validity : Option Data) → g ≤ 4294967295 →
    code ≤ 9999 → IfSome last (Fit 2) → IfSome grant (Fit 2) → IfSome validity (Fit 2) →
    Fit 3 (service_members g code last grant validity)
members_fit g code last grant validity gs cs l u v =
    let end : FitMembers 2 (perhaps validity_time validity no_members) =
    fit_perhaps 2 _ validity no_members refl v tt (fit_none 2) in
    let coded : FitMembers 2
    (member result_code (whole code) (perhaps validity_time validity no_members)) =
    fit_member 2 _ (whole code) _ refl (fit_whole 2 code (omega arith))
    (above_perhaps _ _ validity no_members refl tt) end in
    let group : FitMembers 2 (member (name_of avp.RatingGroup) (whole g)
    (member result_code (whole code) (perhaps validity_time validity no_members))) =
    fit_member 2 _ (whole g) _ refl (fit_whole 2 g (omega arith))
    (refl, above_perhaps _ _ validity no_members refl tt) coded in
    fit_object 2 _ (fit_perhaps 2 final_unit last _ refl l
    (above_perhaps _ granted_unit grant _ refl (
      refl,
      (refl, above_perhaps _ _ validity no_members refl tt),
    )) (fit_perhaps 2 granted_unit grant _ refl u (
      refl,
      (refl, above_perhaps _ _ validity no_members refl tt),
    ) group))

service_fit : (s : ServiceAnswer) → IsServiceAnswer s → Fit 3 (service_data s)
unfolding service_data
service_fit s is = members_fit s.group (service_code s.outcome)
    (final_of s.outcome) (granted_of s.outcome) (option_map whole (validity_of s.outcome)) is.group
    (code_low s.outcome) (lasts_fit s.outcome is.outcome) (grants_fit s.outcome is.outcome)
    (fit_optional 2 4294967295 (validity_of s.outcome) (lit≤ tt) is.validity)

services_fit : (ss : List ServiceAnswer) → AllByRecursion IsServiceAnswer ss →
    FitItems 3 (service_items ss)
services_fit [] is = fit_no_items 3
services_fit (s ∷ ss) is =
    fit_item 3 (service_data s) (service_items ss) (service_fit s is.0) (services_fit ss is.1)

avp_ascii : (a : Avp) → are_ascii (name_of a) ≡ true
avp_ascii avp.SessionId = refl
avp_ascii avp.RequestType = refl
avp_ascii avp.RequestNumber = refl
avp_ascii avp.SubscriptionId = refl
avp_ascii avp.SubscriptionIdType = refl
avp_ascii avp.SubscriptionIdData = refl
avp_ascii avp.RequestedAction = refl
avp_ascii avp.Services = refl
avp_ascii avp.RatingGroup = refl
avp_ascii avp.RequestedUnit = refl
avp_ascii avp.UsedUnit = refl
avp_ascii avp.Money = refl
avp_ascii avp.UnitValue = refl
avp_ascii avp.ValueDigits = refl
avp_ascii avp.Exponent = refl
avp_ascii avp.CurrencyCode = refl
avp_ascii avp.Amount = refl
avp_ascii avp.Blocks = refl
avp_ascii avp.From = refl
avp_ascii avp.Until = refl
avp_ascii avp.Scope = refl
avp_ascii avp.Reference = refl
avp_ascii avp.VoucherCode = refl
avp_ascii avp.Month = refl

balance_fit : (b : Balance) → Fit 4 (whole (balance_number b))
balance_fit EnoughCredit = fit_whole 4 0 (lit≤ tt)
balance_fit NoCredit = fit_whole 4 1 (lit≤ tt)

failure_fit : (f : Failure) (ms : Members) → FitMembers 4 ms → Above failed_avp ms →
    FitMembers 4 (with_members (failure_named f) ms)
failure_fit (Denied f) ms h above = h
failure_fit UnknownSessionId ms h above = h
failure_fit (InvalidAvpValue a) ms h above = fit_member 4 _ (string (name_of a)) ms refl
    (fit_text 4 (name_of a) (name (name_of a) (avp_ascii a))) above h
failure_fit UnableToComply ms h above = h
failure_fit UserUnknown ms h above = h

outcome_fit : (o : Outcome) (code : ℕ) (session : List ℕ) →
    IsOutcome o → FitMembers 4 (end_members code session) →
    FitMembers 4 (with_members (outcome_named o) (end_members code session))
outcome_fit (outcome.Services ss) code session is h = fit_member 4 _ (array (service_items ss)) _
    refl (fit_array 3 (service_items ss) (services_fit ss is)) (refl, (refl, tt)) h
outcome_fit outcome.Refunded code session is h = h
outcome_fit (outcome.Checked b) code session is h =
    fit_member 4 _ (whole (balance_number b)) _ refl (balance_fit b) (refl, (refl, tt)) h
outcome_fit (outcome.Priced c) code session is h =
    fit_member 4 _ (money_data c.micros c.currency) _ refl (fit_deeper 2 4 _ (lit≤ tt)
    (fit_money 0 c.micros c.currency is.micros is.currency)) (refl, (refl, tt)) h
outcome_fit (outcome.Failed f) code session is h =
    failure_fit f (end_members code session) h (refl, (refl, tt))

failure_above : (k : List ℕ) (f : Failure) (ms : Members) → slice_cmp nat_cmp failed_avp k
    ≡ Greater → Above k ms → Above k (with_members (failure_named f) ms)
failure_above k (Denied f) ms g h = h
failure_above k UnknownSessionId ms g h = h
failure_above k (InvalidAvpValue a) ms g h = (g, h)
failure_above k UnableToComply ms g h = h
failure_above k UserUnknown ms g h = h

outcome_above : (k : List ℕ) (o : Outcome) (ms : Members) →
    slice_cmp nat_cmp (name_of avp.Services) k ≡ Greater → slice_cmp nat_cmp check_balance_result k
    ≡ Greater → slice_cmp nat_cmp cost_information k ≡ Greater → slice_cmp nat_cmp failed_avp k
    ≡ Greater → Above k ms → Above k (with_members (outcome_named o) ms)
outcome_above k (outcome.Services ss) ms s b c f h = (s, h)
outcome_above k outcome.Refunded ms s b c f h = h
outcome_above k (outcome.Checked x) ms s b c f h = (b, h)
outcome_above k (outcome.Priced x) ms s b c f h = (c, h)
outcome_above k (outcome.Failed x) ms s b c f h = failure_above k x ms f h

end_fit : (o : Outcome) (session : List ℕ) → is_session_id session ≡ true →
    FitMembers 4 (end_members (outcome_code o) session)
end_fit o session h =
    fit_member 4 _ (whole (outcome_code o)) _ refl
    (fit_whole 4 (outcome_code o) (omega (arith, code_small o))) (refl, tt) (fit_member 4 _
    (string session) no_members refl (fit_text 4 session (session_utf8 session h)) tt (fit_none 4))

request_fit : (a : RequestAnswer) → IsRequestAnswer a →
    Fit 127 (object (request_members a.number (kind_number a.kind) a.outcome a.session))
request_fit a is =
    let code = outcome_code a.outcome in
    let told =
    outcome_fit a.outcome code a.session is.outcome (end_fit a.outcome a.session is.session) in
    let above_type = outcome_above (name_of avp.RequestType) a.outcome
    (end_members code a.session) refl refl refl refl (refl, (refl, tt)) in
    let above_number = outcome_above (name_of avp.RequestNumber) a.outcome
    (end_members code a.session) refl refl refl refl (refl, (refl, tt)) in
    fit_deeper 5 127 _ (lit≤ tt) (fit_object 4 _ (fit_member 4 _ (whole a.number) _ refl
    (fit_whole 4 a.number (omega (arith, is.number))) (refl, above_number)
    (fit_member 4 _ (whole (kind_number a.kind)) _ refl
    (fit_whole 4 (kind_number a.kind) (kind_small a.kind)) above_type told)))

code_fit : FitMembers 0 (code_member 2001)
code_fit = fit_member 0 _ (whole 2001) no_members refl (fit_whole 0 2001 (lit≤ tt)) tt (fit_none 0)

flat : (ms : Members) → FitMembers 0 ms → Fit 127 (object ms)
flat ms h = fit_deeper 1 127 _ (lit≤ tt) (fit_object 0 ms h)

-- ---- the answer

done_found : (d : Data) → get (result_code) d ≡ Some (whole 2001) →
    number_in result_code 2001 2001 d ≡ Ok 2001
done_found d e = number_in_found result_code 2001 2001 d 2001 e (lit≤ tt) (lit≤ tt)

refusal_ascii : (r : Refusal) → are_ascii (refusal_name r) ≡ true
refusal_ascii AccountExists = refl
refusal_ascii AccountUnknown = refl
refusal_ascii VoucherUnknown = refl
refusal_ascii VoucherSpent = refl
refusal_ascii ContentDiffers = refl
refusal_ascii OutOfRange = refl
refusal_ascii ScopeUnknown = refl

refusal_again : (r : Refusal) →
    refusal_at (object (member refusal (string (refusal_name r)) no_members))
    ≡ Ok (answer.Refused r)
unfolding refusal_at
refusal_again r = rw (
  text_in_found refusal (object (member refusal (string (refusal_name r)) no_members))
      (refusal_name r) refl,
  are_tables.refusals.there r,
) refl

-- rule: answers.answers-read-again, answers.reads-written, balance-text
pub answers_again : AnswersReadAgain answer_text
unfolding answer_of answer_text answer_data request_answer_data done_at balance_data
answers_again (answer.Request a) is =
    let ms = request_members a.number (kind_number a.kind) a.outcome a.session in
    rw (
      document_again ms (request_fit a is),
      session_found a.number (kind_number a.kind) a.outcome a.session,
      request_again a is,
    ) refl
answers_again answer.Done is =
    let ms = code_member 2001 in
    let d = object ms in
    rw (
      document_again ms (flat ms code_fit),
      done_found d refl,
      optional_in_found bucket NotRequest 0 4294967295 d None refl tt,
      optional_in_found accounts NotRequest 0 18446744073709551615 d None refl tt,
    ) refl
answers_again (answer.Bucket n) is =
    let ms = member bucket (whole n) (code_member 2001) in
    let d = object ms in
    rw (
      document_again ms (flat ms (fit_member 0 _ (whole n) _ refl (fit_whole 0 n (omega (
        arith,
        is,
      ))) (refl, tt) code_fit)),
      done_found d refl,
      optional_in_found bucket NotRequest 0 4294967295 d (Some n) refl (omega arith, is),
    ) refl
answers_again (answer.Swept n) is =
    let ms = member accounts (whole n) (code_member 2001) in
    let d = object ms in
    rw (
      document_again ms
          (flat ms (fit_member 0 _ (whole n) _ refl (fit_whole 0 n is) (refl, tt) code_fit)),
      done_found d refl,
      optional_in_found bucket NotRequest 0 4294967295 d None refl tt,
      optional_in_found accounts NotRequest 0 18446744073709551615 d (Some n) refl
          (omega arith, is),
    ) refl
answers_again (answer.Balance a) is =
    rw (
      document_again (balance_members a) (account_balance_fit a is),
      account_balance_again a is,
    ) refl
answers_again (answer.Refused r) is =
    let ms = member refusal (string (refusal_name r)) no_members in
    rw (
      document_again ms (flat ms (fit_member 0 _ (string (refusal_name r)) no_members refl
          (fit_text 0 (refusal_name r) (name (refusal_name r) (refusal_ascii r))) tt (fit_none 0))),
      refusal_again r,
    ) refl

-- ---- what is read is what was written

-- a text that was written says its answer
says_written : (bytes : List ℕ) (a : Answer) → IsAnswer a → answer_text a ≡ bytes →
    answer_of bytes ≡ Ok a
says_written bytes a is text = subst (λ (b : List ℕ). answer_of b ≡ Ok a) text (answers_again a is)

pub reads_written : (bytes : List ℕ) (returned : Result Answer WireFault) →
    Gives (λ a. a) returned (answer_of bytes) → ReadsWritten bytes returned
reads_written bytes returned given a is text =
    subst (λ (r : Result Answer WireFault). Gives (λ x. x) returned r)
    (says_written bytes a is text) given

-- bytes that say no answer were not written
pub never_said : (bytes : List ℕ) (fault told : WireFault) → Gives (λ (a : Answer). a) (Err fault)
    (answer_of bytes) → (fault ≡ Memory → told ≡ Memory) → ReadsWritten bytes (Err told)
never_said bytes fault told given keeps a is text other =
    let clash : Ok a ≡ Err fault = sym (says_written bytes a is text)
    ∙ given (λ e. other (keeps e)) in
    absurd (cc)

-- bytes that say an answer and aren't its text were not written
pub never_written : (bytes : List ℕ) (a : Answer) (returned : Result Answer WireFault) →
    answer_of bytes ≡ Ok a → (answer_text a ≡ bytes → ⊥) → ReadsWritten bytes returned
never_written bytes a returned given other b is text =
    absurd (other (subst (λ (x : Answer). answer_text x ≡ bytes)
    (same_value b a (sym (says_written bytes b is text) ∙ given)) text))

-- ---- texts and no texts

same_bytes : (text bytes : List ℕ) → text ≡ bytes → pointwise nat_eq text bytes ≡ true
same_bytes text bytes is = (bytes_decides text bytes).1 is

other_bytes : (text bytes : List ℕ) → (text ≡ bytes → ⊥) → pointwise nat_eq text bytes ≡ false
other_bytes text bytes other = go (pointwise nat_eq text bytes) refl
  where
    go : (b : Bool) → pointwise nat_eq text bytes ≡ b → pointwise nat_eq text bytes ≡ false
    go false e = e
    go true e = absurd (other ((bytes_decides text bytes).0 e))

pub text_read : (bytes : List ℕ) (a : Answer) → answer_of bytes ≡ Ok a → answer_text a ≡ bytes →
    is_answer_text bytes ≡ true
text_read bytes a said text =
    ap (is_own_answer bytes) said ∙ same_bytes (answer_text a) bytes text

pub text_of_other : (bytes : List ℕ) (a : Answer) → answer_of bytes ≡ Ok a →
    (answer_text a ≡ bytes → ⊥) → is_answer_text bytes ≡ false
text_of_other bytes a said other =
    ap (is_own_answer bytes) said ∙ other_bytes (answer_text a) bytes other

pub text_refused : (bytes : List ℕ) (fault told : WireFault) →
    Gives (λ (a : Answer). a) (Err fault) (answer_of bytes) → (fault ≡ Memory → told ≡ Memory) →
    (told ≡ Memory) ⊎ (told ≡ NotRequest) →
    (told ≡ Memory) ⊎ ((told ≡ NotRequest) × (is_answer_text bytes ≡ false))
text_refused bytes fault told given keeps (inl e) = inl e
text_refused bytes fault told given keeps (inr e) = inr (
  e,
  ap (is_own_answer bytes) (given (λ f.
      let clash : NotRequest ≡ Memory = sym e ∙ keeps f in
      absurd (cc))),
)

-- ---- the order of members

answer_fit : (a : Answer) → IsAnswer a → Fit 127 (answer_data a)
unfolding answer_data request_answer_data balance_data
answer_fit (answer.Request a) is = request_fit a is
answer_fit answer.Done is = flat (code_member 2001) code_fit
answer_fit (answer.Bucket n) is =
    flat _ (fit_member 0 _ (whole n) _ refl (fit_whole 0 n (omega (arith, is))) (refl, tt) code_fit)
answer_fit (answer.Swept n) is =
    flat _ (fit_member 0 _ (whole n) _ refl (fit_whole 0 n is) (refl, tt) code_fit)
answer_fit (answer.Balance a) is = account_balance_fit a is
answer_fit (answer.Refused r) is = flat _ (fit_member 0 _ (string (refusal_name r)) no_members refl
    (fit_text 0 (refusal_name r) (name (refusal_name r) (refusal_ascii r))) tt (fit_none 0))

-- rule: answers.in-byte-order
pub answers_in_order : AnswersAreInOrder answer_data
answers_in_order a is = in_order (answer_data a) (answer_fit a is).tidy
