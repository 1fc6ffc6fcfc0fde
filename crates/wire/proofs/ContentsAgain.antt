-- What is kept of a command is read as that content.
use Rattle.std.proofs.Common.{nat_eq, sym, subst, ◌≡◌, ℕ, ◌≤◌, lit≤, List, Bool, true}
use Rattle.std.proofs.Common.{Option, Some, None, option_map, Result, Ok, Err, refl}
use Rattle.std.proofs.Common.{ap, ◌∙◌, arith, false}
use Rattle.std.specs.Cmp.Lexicographic.{pointwise, bytes_decides}
use Rattle.serde_json.specs.Data.{Data, string, object, Members, no_members, member}
use Rattle.serde_json.specs.Find.{get}
use Rattle.commands.specs.declared.avp.Avp.TheVariants as avp
use Rattle.commands.specs.Names.{name_of}
use Rattle.commands.specs.declared.request.Request.{Request}
use Rattle.commands.specs.Kept.{is_kept}
use Rattle.commands.specs.declared.command.Credit.{Credit}
use Rattle.commands.specs.declared.command.Content.{Content}
use Rattle.commands.specs.declared.command.Content.TheVariants as content
use Rattle.commands.specs.Keys.{account_of}
use Rattle.json_fields.specs.declared.fault.WireFault.{WireFault}
use Rattle.json_fields.specs.declared.fault.WireFault.TheVariants.{Missing, Invalid, Memory}
use Rattle.json_fields.specs.declared.fault.WireFault.TheVariants.{NotRequest}
use Rattle.json_fields.specs.Gives.{or_fault, Gives}
use Rattle.json_fields.specs.Fields.{member_at, number_at, optional_at, text_at, document_at}
use Rattle.json_fields.specs.Spelling.{whole, perhaps}
use Rattle.json_fields.proofs.Found.{get_skip, get_here, number_found, from_zero, optional_found}
use Rattle.json_fields.proofs.Found.{text_found}
use Rattle.json_fields.proofs.Fit.{Fit, FitMembers, fit_whole, fit_text, fit_object, fit_none}
use Rattle.json_fields.proofs.Fit.{fit_member, fit_perhaps, fit_optional, fit_deeper, above_perhaps}
use Rattle.json_fields.proofs.Fit.{document_again}
use Rattle.json_fields.proofs.Kept.{same_value, bind_ok, where_ok}
use Rattle.json_fields.proofs.Order.{in_order}
use Rattle.wire_requests.proofs.Micros.{number_ok}
use Rattle.wire_requests.specs.Spelled.{request_text}
use Rattle.wire_requests.specs.Reading.{session_at, request_in, request_of}
use Rattle.wire_requests.proofs.RequestsAgain.{requests_again}
use Rattle.wire.specs.Credits.{reference_at, credit_at, credit_data, credit_text, IsCredit}
use Rattle.wire.proofs.AllowancesAgain.{at_most, allowance_content_again, allowance_content_account}
use Rattle.wire.proofs.RedeemedAgain.{reference_utf8, redemption_content_again, redemption_account}
use Rattle.wire.specs.Contents.{content_text, content_of, request_content_in, credit_content_in}
use Rattle.wire.specs.Contents.{given_content_when, operator_content_when, content_when}
use Rattle.wire.specs.Contents.{IsContent, is_content_text, is_own_text, fault_of_content}
use Rattle.wire.specs.Contents.{ContentsReadAgain, ReadsWritten, CreditsAreInOrder}

abbrev credit_members : ℕ → Option Data → List ℕ → Option Data → Option Data → Members
credit_members amount from reference scope until = member (name_of avp.Amount) (whole amount)
    (perhaps (name_of avp.From) from
    (member (name_of avp.Reference) (string reference)
    (perhaps (name_of avp.Scope) scope
    (perhaps (name_of avp.Until) until no_members))))

module _ (amount : ℕ) (from : Option Data) (reference : List ℕ) (scope until : Option Data) where
  from_is : get (name_of avp.From)
      (object (credit_members amount from reference scope until)) ≡ from
  from_is = get_here (name_of avp.From) from _ refl (get_skip (name_of avp.From) (name_of avp.Scope)
      scope _ refl ∙ get_skip (name_of avp.From) (name_of avp.Until) until no_members refl)

  until_is : get (name_of avp.Until)
      (object (credit_members amount from reference scope until)) ≡ until
  until_is = get_skip (name_of avp.Until) (name_of avp.From) from _ refl
      ∙ get_skip (name_of avp.Until) (name_of avp.Scope) scope _ refl
      ∙ get_here (name_of avp.Until) until no_members refl refl

  scope_is : get (name_of avp.Scope)
      (object (credit_members amount from reference scope until)) ≡ scope
  scope_is = get_skip (name_of avp.Scope) (name_of avp.From) from _ refl
      ∙ get_here (name_of avp.Scope) scope _ refl
      (get_skip (name_of avp.Scope) (name_of avp.Until) until no_members refl)

  reference_is : get (name_of avp.Reference)
      (object (credit_members amount from reference scope until)) ≡ Some (string reference)
  reference_is = get_skip (name_of avp.Reference) (name_of avp.From) from _ refl

  no_session : get (name_of avp.SessionId)
      (object (credit_members amount from reference scope until)) ≡ None
  no_session = get_skip (name_of avp.SessionId) (name_of avp.From) from _ refl
      ∙ get_skip (name_of avp.SessionId) (name_of avp.Scope) scope _ refl
      ∙ get_skip (name_of avp.SessionId) (name_of avp.Until) until no_members refl

  no_blocks : get (name_of avp.Blocks)
      (object (credit_members amount from reference scope until)) ≡ None
  no_blocks = get_skip (name_of avp.Blocks) (name_of avp.From) from _ refl
      ∙ get_skip (name_of avp.Blocks) (name_of avp.Scope) scope _ refl
      ∙ get_skip (name_of avp.Blocks) (name_of avp.Until) until no_members refl

  no_code : get (name_of avp.VoucherCode)
      (object (credit_members amount from reference scope until)) ≡ None
  no_code = get_skip (name_of avp.VoucherCode) (name_of avp.From) from _ refl
      ∙ get_skip (name_of avp.VoucherCode) (name_of avp.Scope) scope _ refl
      ∙ get_skip (name_of avp.VoucherCode) (name_of avp.Until) until no_members refl

abbrev members_of : Credit → Members
members_of c = credit_members c.amount (option_map whole c.from) c.reference
    (option_map whole c.scope) (option_map whole c.until)

credit_again : (c : Credit) → IsCredit c → credit_at c.account (object (members_of c)) ≡ Ok c
unfolding credit_at reference_at
credit_again c is =
    let from = option_map whole c.from in
    let scope = option_map whole c.scope in
    let until = option_map whole c.until in
    let d = object (members_of c) in
    rw (
      number_found avp.Amount 1 1_000_000_000_000_000 d c.amount refl is.some is.amount,
      optional_found avp.From 0 4_102_444_799 d c.from
          (from_is c.amount from c.reference scope until) (from_zero 4_102_444_799 c.from is.from),
      optional_found avp.Until 1 4_102_444_800 d c.until
          (until_is c.amount from c.reference scope until) is.until,
      optional_found avp.Scope 0 4_294_967_295 d c.scope (scope_is c.amount from c.reference scope
          until) (from_zero 4_294_967_295 c.scope is.scope),
      text_found avp.Reference d c.reference (reference_is c.amount from c.reference scope until),
      is.reference,
    ) refl

credit_fit : (c : Credit) → IsCredit c → Fit 127 (object (members_of c))
credit_fit c is =
    let from = option_map whole c.from in
    let scope = option_map whole c.scope in
    let until = option_map whole c.until in
    let u : FitMembers 0 (perhaps (name_of avp.Until) until no_members) =
    fit_perhaps 0 _ until no_members refl (fit_optional 0 4_102_444_800 c.until (lit≤ tt)
    (at_most 1 4_102_444_800 c.until is.until)) tt (fit_none 0) in
    let s : FitMembers 0
    (perhaps (name_of avp.Scope) scope (perhaps (name_of avp.Until) until no_members)) =
    fit_perhaps 0 _ scope _ refl (fit_optional 0 4_294_967_295 c.scope (lit≤ tt) is.scope)
    (above_perhaps _ _ until no_members refl tt) u in
    let r : FitMembers 0 (member (name_of avp.Reference) (string c.reference)
    (perhaps (name_of avp.Scope) scope (perhaps (name_of avp.Until) until no_members))) =
    fit_member 0 _
    (string c.reference) _ refl (fit_text 0 c.reference (reference_utf8 c.reference is.reference))
    (above_perhaps _ _ scope _ refl (above_perhaps _ _ until no_members refl tt)) s in
    let f = fit_perhaps 0
    (name_of avp.From) from _ refl (fit_optional 0 4_102_444_799 c.from (lit≤ tt) is.from)
    (refl, above_perhaps _ _ scope _ refl (above_perhaps _ _ until no_members refl tt)) r in
    fit_deeper 1 127 _ (lit≤ tt) (fit_object 0 _ (fit_member 0 _ (whole c.amount) _ refl
    (fit_whole 0 c.amount (omega (arith, is.amount))) (above_perhaps _ _ from _ refl (
      refl,
      above_perhaps _ _ scope _ refl (above_perhaps _ _ until no_members refl tt),
    )) f))

pub credit_content_again : (c : Credit) → IsCredit c →
    content_of c.account (credit_text c) ≡ Ok (content.Credit c)
unfolding content_of credit_content_in credit_text credit_data
credit_content_again c is =
    rw (
      document_again (members_of c) (credit_fit c is),
      no_session c.amount (option_map whole c.from) c.reference (option_map whole c.scope)
          (option_map whole c.until),
      no_code c.amount (option_map whole c.from) c.reference (option_map whole c.scope)
          (option_map whole c.until),
      no_blocks c.amount (option_map whole c.from) c.reference (option_map whole c.scope)
          (option_map whole c.until),
      credit_again c is,
    ) refl

-- rule: kept-content.in-byte-order
pub credits_in_order : CreditsAreInOrder credit_data
unfolding credit_data
credits_in_order c is = in_order (object (members_of c)) (credit_fit c is).tidy

-- ---- a request

or_found : (e : WireFault) (o : Option Data) (v : Data) → or_fault e o ≡ Ok v → o ≡ Some v
or_found e None v h = absurd (cc)
or_found e (Some x) v h = ap Some (same_value x v h)

-- a request that is read has a Session-Id
session_stands : (d : Data) (r : Request) → request_in d ≡ Ok r →
    (v : Data) × (get (name_of avp.SessionId) d ≡ Some v)
unfolding request_in session_at text_at member_at
session_stands d r h =
    let s = bind_ok (session_at d) _ r h in
    let t = bind_ok (text_at avp.SessionId d) _ s.0 s.1 in
    let v = bind_ok (member_at avp.SessionId d) _ t.0 t.1 in
    (v.0, or_found (Missing avp.SessionId) (get (name_of avp.SessionId) d) v.0 v.1)

pub request_content_again : (bytes : List ℕ) (r : Request) → request_of bytes ≡ Ok r →
    content_of r.account bytes ≡ Ok (content.Request r)
unfolding content_of request_of request_content_in
request_content_again bytes r h =
    let d = bind_ok (document_at bytes) _ r h in
    let s = session_stands d.0 r d.2 in
    rw (d.1, s.1, d.2, (bytes_decides r.account r.account).1 refl) refl

-- rule: kept-content, kept-content.reads-content
pub contents_again : ContentsReadAgain content_text
contents_again (content.Request r) is =
    request_content_again (request_text r) r (requests_again r is)
contents_again (content.Credit c) is = credit_content_again c is
contents_again (content.Allow a) is = allowance_content_again a is
contents_again (content.Redeem r) is = redemption_content_again r is

-- ---- what is read is of the account, and is what was written

-- a credit that is read is of 1 micro-unit or more
pub credit_some : (account : List ℕ) (d : Data) (c : Credit) → credit_at account d ≡ Ok c →
    is_kept c ≡ true
unfolding credit_at
credit_some account d c h =
    let amount = bind_ok (number_at avp.Amount 1 1_000_000_000_000_000 d) _ c h in
    let from = bind_ok (optional_at avp.From 0 4_102_444_799 d) _ c amount.2 in
    let until = bind_ok (optional_at avp.Until 1 4_102_444_800 d) _ c from.2 in
    let scope = bind_ok (optional_at avp.Scope 0 4_294_967_295 d) _ c until.2 in
    let reference = bind_ok (reference_at d) _ c scope.2 in
    let few = number_ok avp.Amount 1 1_000_000_000_000_000 d amount.0 amount.1 in
    subst (λ (x : Credit). is_kept x ≡ true) (same_value _ c reference.2) few

credit_account : (account : List ℕ) (d : Data) (c : Credit) → credit_at account d ≡ Ok c →
    c.account ≡ account
unfolding credit_at
credit_account account d c h =
    let amount = bind_ok (number_at avp.Amount 1 1_000_000_000_000_000 d) _ c h in
    let from = bind_ok (optional_at avp.From 0 4_102_444_799 d) _ c amount.2 in
    let until = bind_ok (optional_at avp.Until 1 4_102_444_800 d) _ c from.2 in
    let scope = bind_ok (optional_at avp.Scope 0 4_294_967_295 d) _ c until.2 in
    let reference = bind_ok (reference_at d) _ c scope.2 in
    sym (ap (λ (x : Credit). x.account) (same_value _ c reference.2))

given_account : (account : List ℕ) (d : Data) (o : Option Data) (c : Content) →
    given_content_when account d o ≡ Ok c → account_of c ≡ account
unfolding credit_content_in
given_account account d (Some v) c h = allowance_content_account account d c h
given_account account d None c h =
    let k = bind_ok (credit_at account d) _ c h in
    subst (λ (x : Content). account_of x ≡ account) (same_value _ c k.2)
    (credit_account account d k.0 k.1)

operator_account : (account : List ℕ) (d : Data) (o : Option Data) (c : Content) →
    operator_content_when account d o ≡ Ok c → account_of c ≡ account
operator_account account d (Some v) c h = redemption_account account d c account_of (λ r. refl) h
operator_account account d None c h = given_account account d (get (name_of avp.Blocks) d) c h

when_account : (account : List ℕ) (d : Data) (o : Option Data) (c : Content) →
    content_when account d o ≡ Ok c → account_of c ≡ account
unfolding request_content_in
when_account account d (Some v) c h =
    let r = bind_ok (request_in d) _ c h in
    let test = where_ok (pointwise nat_eq r.0.account account) (Invalid avp.SubscriptionIdData)
    (content.Request r.0) c r.2 in
    subst (λ (x : Content). account_of x ≡ account) test.1
    ((bytes_decides r.0.account account).0 test.0)
when_account account d None c h = operator_account account d (get (name_of avp.VoucherCode) d) c h

pub of_account : (account bytes : List ℕ) (c : Content) → content_of account bytes ≡ Ok c →
    account_of c ≡ account
unfolding content_of
of_account account bytes c h =
    let d = bind_ok (document_at bytes) _ c h in
    when_account account d.0 (get (name_of avp.SessionId) d.0) c d.2

-- a text that was written says its content
says_written : (account bytes : List ℕ) (c : Content) → IsContent c → account_of c ≡ account →
    content_text c ≡ bytes → content_of account bytes ≡ Ok c
says_written account bytes c is own text =
    subst (λ (b : List ℕ). content_of account b ≡ Ok c) text
    (subst (λ (a : List ℕ). content_of a (content_text c) ≡ Ok c) own (contents_again c is))

pub reads_written : (account bytes : List ℕ) (returned : Result Content WireFault) →
    Gives (λ c. c) returned (content_of account bytes) → ReadsWritten account bytes returned
reads_written account bytes returned given c is own text =
    subst (λ (r : Result Content WireFault). Gives (λ x. x) returned r)
    (says_written account bytes c is own text) given

-- bytes that say a content and aren't its text were not written
pub never_written : (account bytes : List ℕ) (c : Content) (returned : Result Content WireFault) →
    content_of account bytes ≡ Ok c → (content_text c ≡ bytes → ⊥) →
    ReadsWritten account bytes returned
never_written account bytes c returned given other d is own text =
    absurd (other (subst (λ (x : Content). content_text x ≡ bytes)
    (same_value d c (sym (says_written account bytes d is own text) ∙ given)) text))

-- ---- texts and no texts

same_bytes : (text bytes : List ℕ) → text ≡ bytes → pointwise nat_eq text bytes ≡ true
same_bytes text bytes is = (bytes_decides text bytes).1 is

other_bytes : (text bytes : List ℕ) → (text ≡ bytes → ⊥) → pointwise nat_eq text bytes ≡ false
other_bytes text bytes other = go (pointwise nat_eq text bytes) refl
  where
    go : (b : Bool) → pointwise nat_eq text bytes ≡ b → pointwise nat_eq text bytes ≡ false
    go false e = e
    go true e = absurd (other ((bytes_decides text bytes).0 e))

pub text_read : (account bytes : List ℕ) (c : Content) → content_of account bytes ≡ Ok c →
    content_text c ≡ bytes → is_content_text account bytes ≡ true
text_read account bytes c said text =
    ap (is_own_text bytes) said ∙ same_bytes (content_text c) bytes text

pub text_of_other : (account bytes : List ℕ) (c : Content) → content_of account bytes ≡ Ok c →
    (content_text c ≡ bytes → ⊥) → (is_content_text account bytes ≡ false)
    × (NotRequest ≡ fault_of_content (content_of account bytes))
text_of_other account bytes c said other = (
  ap (is_own_text bytes) said ∙ other_bytes (content_text c) bytes other,
  sym (ap fault_of_content said),
)

pub text_refused : (account bytes : List ℕ) (e : WireFault) →
    Gives (λ (c : Content). c) (Err e) (content_of account bytes) → ¬ (e ≡ Memory) →
    (is_content_text account bytes ≡ false) × (e ≡ fault_of_content (content_of account bytes))
text_refused account bytes e given more = (
  ap (is_own_text bytes) (given more),
  sym (ap fault_of_content (given more)),
)
