-- What is kept of a command, as text.
use Rattle.std.specs.Prelude.{◌≡◌, ℕ, List, Option, Some, None, Result, Ok, Err, nat_eq}
use Rattle.std.specs.Prelude.{Bool, true, false, IfOk, MatchResult}
use Rattle.std.specs.Cmp.Lexicographic.{pointwise}
use Rattle.identifiers.specs.Words.{AccountName}
use Rattle.serde_json.specs.Data.{Data}
use Rattle.serde_json.specs.Find.{get}
use Rattle.commands.specs.Names.{name_of}
use Rattle.commands.specs.Keys.{account_of}
use Rattle.commands.specs.declared.avp.Avp.TheVariants as avp
use Rattle.commands.specs.declared.command.Credit.{Credit}
use Rattle.commands.specs.declared.allowance.Allowance.{Allowance}
use Rattle.commands.specs.declared.command.VoucherRedemption.{VoucherRedemption}
use Rattle.commands.specs.declared.command.Content.{Content}
use Rattle.commands.specs.declared.command.Content.TheVariants as content
use Rattle.json_fields.specs.declared.fault.WireFault.{WireFault}
use Rattle.json_fields.specs.declared.fault.WireFault.TheVariants.{Invalid, Memory, NotRequest}
use Rattle.json_fields.specs.Gives.{◌>>=◌, where_holds, Gives}
use Rattle.json_fields.specs.Fields.{document_at}
use Rattle.json_fields.specs.Order.{AreInByteOrder}
use Rattle.wire_requests.specs.Reading.{request_in}
use Rattle.wire_requests.specs.Spelled.{request_text}
use Rattle.wire_requests.specs.Rules.{IsRequest}
use Rattle.wire.specs.Credits.{credit_at, credit_text, IsCredit}
use Rattle.wire.specs.Allowances.{allowance_at, allowance_text, IsAllowance}
use Rattle.wire.specs.Redeemed.{kept_redemption_at, redemption_text, IsRedemption}

-- the text that is kept
abbrev pub content_text : Content → List ℕ
content_text (content.Request r) = request_text r
content_text (content.Credit c) = credit_text c
content_text (content.Allow a) = allowance_text a
content_text (content.Redeem r) = redemption_text r

-- a request that is kept is one of the account that it is kept under
unfoldable pub request_content_in : AccountName → Data → Result Content WireFault
request_content_in account d = do
  r ← request_in d
  where_holds (pointwise nat_eq r.account account) (Invalid avp.SubscriptionIdData)
      (content.Request r)

unfoldable pub credit_content_in : AccountName → Data → Result Content WireFault
credit_content_in account d = do
  c ← credit_at account d
  Ok (content.Credit c)

unfoldable pub allowance_content_in : AccountName → Data → Result Content WireFault
allowance_content_in account d = do
  a ← allowance_at account d
  Ok (content.Allow a)

-- so is a redemption
unfoldable pub redemption_content_in : AccountName → Data → Result Content WireFault
redemption_content_in account d = do
  r ← kept_redemption_at d
  where_holds (pointwise nat_eq r.account account) (Invalid avp.SubscriptionIdData)
      (content.Redeem r)

-- what a kept text without a Voucher-Code is, by the member that is there: an allowance has Blocks
abbrev pub given_content_when : AccountName → Data → Option Data → Result Content WireFault
given_content_when account d (Some blocks) = allowance_content_in account d
given_content_when account d None = credit_content_in account d

-- what a kept text of an operator's command is, by the member that is there: a redemption has a
-- Voucher-Code
abbrev pub operator_content_when : AccountName → Data → Option Data → Result Content WireFault
operator_content_when account d (Some code) = redemption_content_in account d
operator_content_when account d None =
    given_content_when account d (get (name_of avp.Blocks) d)

-- what a kept text is, by the member that is there: a request has a Session-Id
abbrev pub content_when : AccountName → Data → Option Data → Result Content WireFault
content_when account d (Some session) = request_content_in account d
content_when account d None = operator_content_when account d (get (name_of avp.VoucherCode) d)

-- the content that a kept text is; the account of a credit or an allowance is known from where it
-- is kept
unfoldable pub content_of : AccountName → List ℕ → Result Content WireFault
content_of account bytes = do
  d ← document_at bytes
  content_when account d (get (name_of avp.SessionId) d)

abbrev pub IsContent : Content → Type 0
IsContent (content.Request r) = IsRequest r
IsContent (content.Credit c) = IsCredit c
IsContent (content.Allow a) = IsAllowance a
IsContent (content.Redeem r) = IsRedemption r

-- what was written is read again
-- rule: kept-content: a written content is read again
abbrev pub ContentsReadAgain : (Content → List ℕ) → Type 0
ContentsReadAgain text = (c : Content) → IsContent c → content_of (account_of c) (text c) ≡ Ok c

-- a text that was written for this account is read as its content, unless memory runs out
-- rule: kept-content.reads-content
abbrev pub ReadsWritten : AccountName → List ℕ → Result Content WireFault → Type 0
ReadsWritten account bytes returned = (c : Content)
    → IsContent c → account_of c ≡ account → content_text c ≡ bytes → Gives (λ x. x) returned (Ok c)

-- whether bytes are the text of the content that they say
abbrev pub is_own_text : List ℕ → Result Content WireFault → Bool
is_own_text bytes (Ok c) = pointwise nat_eq (content_text c) bytes
is_own_text bytes (Err e) = false

-- whether bytes are the text of a content of this account, as it is written
abbrev pub is_content_text : List ℕ → List ℕ → Bool
is_content_text account bytes = is_own_text bytes (content_of account bytes)

-- what is reported of bytes that aren't the text of a content of this account: the first fault of
-- what they say, and where they say a content, that they aren't its text
abbrev pub fault_of_content : Result Content WireFault → WireFault
fault_of_content (Ok c) = NotRequest
fault_of_content (Err e) = e

-- such a text is read, unless memory runs out, and no other is: its fault is reported
-- rule: kept-content.reads-content
abbrev pub ReadsTexts : AccountName → List ℕ → Result Content WireFault → Type 0
ReadsTexts account bytes returned =
    MatchResult returned (λ c. is_content_text account bytes ≡ true)
    (λ e. ¬ (e ≡ Memory) → (is_content_text account bytes ≡ false)
    × (e ≡ fault_of_content (content_of account bytes)))

-- bytes are read as the content that they are the text of, of this account
-- rule: kept-content.reads-content: a kept content that is read is the text that was written, and
--   of another text its fault is reported
pub record ReadsContent (name : AccountName) (bytes : List ℕ) (result : Result Content WireFault)
    : Type 0 where
  pub text : IfOk result (λ c. content_text c ≡ bytes)
  pub account : IfOk result (λ c. account_of c ≡ name)
  pub said : IfOk result (λ c. content_of name bytes ≡ Ok c)
  pub written : ReadsWritten name bytes result
  pub texts : ReadsTexts name bytes result

-- what was written has its members in byte order
abbrev pub CreditsAreInOrder : (Credit → Data) → Type 0
CreditsAreInOrder spelled = (c : Credit) → IsCredit c → AreInByteOrder (spelled c)

abbrev pub AllowancesAreInOrder : (Allowance → Data) → Type 0
AllowancesAreInOrder spelled = (a : Allowance) → IsAllowance a → AreInByteOrder (spelled a)

abbrev pub RedemptionsAreInOrder : (VoucherRedemption → Data) → Type 0
RedemptionsAreInOrder spelled = (r : VoucherRedemption) → IsRedemption r →
    AreInByteOrder (spelled r)
