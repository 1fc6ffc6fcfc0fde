-- What redeeming a voucher comes to, over what is under its code.
-- Source: profile.
use Rattle.std.specs.Prelude.{◌≡◌, ◌↔◌, Option, Some, None, Result, Ok, Err, IsSomeAnd, nat_lt}
use Rattle.std.specs.Prelude.{if◌then◌else◌, IsErrOf, IsTrue}
use Rattle.units.specs.Words.{Moment, DayCount, no_end}
use Rattle.identifiers.specs.Words.{AccountName}
use Rattle.voucher_rules.specs.declared.terms.VoucherTerms.{VoucherTerms}
use Rattle.voucher_rules.specs.declared.voucher.Voucher.{Voucher}
use Rattle.voucher_rules.specs.declared.redeeming.Redemption.{Redemption}
use Rattle.voucher_rules.specs.declared.redeeming.RedeemRefusal.{RedeemRefusal}
use Rattle.voucher_rules.specs.declared.redeeming.RedeemRefusal.TheVariants.{VoucherUnknown}
use Rattle.voucher_rules.specs.declared.redeeming.RedeemRefusal.TheVariants.{VoucherSpent}
use Rattle.voucher_rules.specs.declared.redeeming.RedeemRefusal.TheVariants.{EndOutOfRange}
use Rattle.voucher_rules.specs.Standing.{is_spent, spent_by}

-- where the civil day ends that is so many days after that of a moment: first the moment, then the
-- days
abbrev pub DayEnds : Type 0
DayEnds = Moment → DayCount → Option Moment

-- commands have the moments up to 4,102,444,799; 4,102,444,800 stands for "no end", so no day ends
-- there
abbrev pub moment_in_time : Option Moment → Option Moment
moment_in_time None = None
moment_in_time (Some moment) = if nat_lt moment no_end then Some moment else None

abbrev pub end_after : DayEnds → Moment → Option DayCount → Option Moment
end_after day_end t None = Some no_end
end_after day_end t (Some days) = moment_in_time (day_end t days)

-- until when the bucket of a voucher redeemed at t can be used: without days it has no end, with
-- days it ends where the last of them does; None past the last moment
-- rule: voucher-end: until when the bucket of a voucher lasts
abbrev pub bucket_end : DayEnds → VoucherTerms → Moment → Option Moment
bucket_end day_end terms t = end_after day_end t terms.days

-- a voucher that isn't spent, until then
abbrev pub redemption_until : Option Moment → VoucherTerms → AccountName → Moment →
    Result Redemption RedeemRefusal
redemption_until None terms account t = Err EndOutOfRange
redemption_until (Some until) terms account t = Ok (record {
  amount = terms.amount;
  from = t;
  until = until;
  scope = terms.scope;
  voucher = spent_by account terms;
})

-- what an account's redemption at t comes to: a credit from t until the bucket's end, with the
-- voucher's amount and scope, and the voucher spent by the account; or the first of the refusals
-- rule: redeem: what redeeming a voucher does
abbrev pub redemption : DayEnds → Option Voucher → AccountName → Moment →
    Result Redemption RedeemRefusal
redemption day_end None account t = Err VoucherUnknown
redemption day_end (Some voucher) account t =
    if is_spent (Some voucher) then Err VoucherSpent
    else redemption_until (bucket_end day_end voucher.terms t) voucher.terms account t

-- a voucher stands there that isn't spent, and its bucket would end past the last moment
abbrev pub EndsTooLate : DayEnds → Option Voucher → Moment → Type 0
EndsTooLate day_end found t = IsSomeAnd found
    (λ voucher. (voucher.redeemer ≡ None) × (bucket_end day_end voucher.terms t ≡ None))

-- what a redemption comes to, and exactly when each refusal comes
-- rule: redeem
pub record Redeems (day_end : DayEnds) (found : Option Voucher) (account : AccountName) (t : Moment)
    (result : Result Redemption RedeemRefusal) : Type 0 where
  pub value : result ≡ redemption day_end found account t
  pub unknown : IsErrOf result VoucherUnknown ↔ (found ≡ None)
  pub spent : IsErrOf result VoucherSpent ↔ IsTrue (is_spent found)
  pub late : IsErrOf result EndOutOfRange ↔ EndsTooLate day_end found t

-- what is under the code afterwards
-- rule: redeem
abbrev pub after_redemption : Result Redemption RedeemRefusal → Option Voucher → Option Voucher
after_redemption (Ok redeemed) found = Some redeemed.voucher
after_redemption (Err refusal) found = found
