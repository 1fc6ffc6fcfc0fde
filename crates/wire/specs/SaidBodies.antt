-- What the bodies of operators' requests say, member by member, whatever their order.
-- Source: profile.
use Rattle.std.specs.Prelude.{◌≡◌, ℕ, Option, Some, Ok, option_and_then}
use Rattle.identifiers.specs.Words.{AccountName, VoucherCode}
use Rattle.serde_json.specs.Data.{Data}
use Rattle.serde_json.specs.Find.{get, as_number, as_u64}
use Rattle.commands.specs.declared.avp.Avp.{Avp}
use Rattle.commands.specs.declared.avp.Avp.TheVariants as avp
use Rattle.commands.specs.declared.command.Credit.{Credit}
use Rattle.commands.specs.declared.command.VoucherRedemption.{VoucherRedemption}
use Rattle.commands.specs.declared.allowance.Allowance.{Allowance}
use Rattle.commands.specs.Names.{name_of}
use Rattle.wire_requests.specs.Said.{SaysText, SaysNumber, SaysPerhaps}
use Rattle.wire.specs.Credits.{credit_at, IsCredit}
use Rattle.wire.specs.Allowances.{allowance_at, IsAllowance}
use Rattle.wire.specs.Redeemed.{redemption_at, IsRedemption}

-- a value is this number
abbrev pub IsNumber : ℕ → Data → Type 0
IsNumber n value = option_and_then as_u64 (as_number value) ≡ Some n

-- the member of this name is this number, or isn't there
abbrev pub SaysOptional : Avp → Option ℕ → Data → Type 0
SaysOptional a n d = SaysPerhaps IsNumber n (get (name_of a) d)

-- rule: credit-body.says-credit: the bodies of operators are read as their members say, and no
--   otherwise
pub record SaysCredit (c : Credit) (d : Data) : Type 0 where
  pub amount : SaysNumber avp.Amount c.amount d
  pub from : SaysOptional avp.From c.from d
  pub until : SaysOptional avp.Until c.until d
  pub scope : SaysOptional avp.Scope c.scope d
  pub reference : SaysText avp.Reference c.reference d

-- rule: credit-body.says-credit
pub record SaysAllowance (a : Allowance) (d : Data) : Type 0 where
  pub blocks : SaysNumber avp.Blocks a.blocks d
  pub from : SaysOptional avp.From a.from d
  pub until : SaysOptional avp.Until a.until d
  pub scope : SaysNumber avp.Scope a.scope d
  pub reference : SaysText avp.Reference a.reference d

-- rule: redemption-body: a redemption's body
-- rule: credit-body.says-credit
pub record SaysRedemption (r : VoucherRedemption) (d : Data) : Type 0 where
  pub account : SaysText avp.SubscriptionIdData r.account d
  pub reference : SaysText avp.Reference r.reference d

-- ---- what is read is said

-- rule: credit-body.says-credit
abbrev pub CreditsAreSaid : Type 0
CreditsAreSaid = (account : AccountName) (d : Data) (c : Credit) → credit_at account d ≡ Ok c →
    SaysCredit c d

-- rule: credit-body.says-credit
abbrev pub AllowancesAreSaid : Type 0
AllowancesAreSaid = (account : AccountName) (d : Data) (a : Allowance) →
    allowance_at account d ≡ Ok a →
    SaysAllowance a d

-- rule: credit-body.says-credit
abbrev pub RedemptionsAreSaid : Type 0
RedemptionsAreSaid = (code : VoucherCode) (d : Data) (r : VoucherRedemption) →
    redemption_at code d ≡ Ok r → SaysRedemption r d

-- ---- what is said is read

-- rule: credit-body.says-credit
abbrev pub CreditsAreRead : Type 0
CreditsAreRead = (c : Credit) (d : Data) → IsCredit c → SaysCredit c d →
    credit_at c.account d ≡ Ok c

-- rule: credit-body.says-credit
abbrev pub AllowancesAreRead : Type 0
AllowancesAreRead = (a : Allowance) (d : Data) → IsAllowance a → SaysAllowance a d →
    allowance_at a.account d ≡ Ok a

-- rule: credit-body.says-credit, redemption-body
abbrev pub RedemptionsAreRead : Type 0
RedemptionsAreRead = (r : VoucherRedemption) (d : Data) → IsRedemption r → SaysRedemption r d →
    redemption_at r.code d ≡ Ok r
