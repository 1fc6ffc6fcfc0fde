-- What holds of vouchers, whatever is added and redeemed, wherever days end.
-- Source: profile.
use Rattle.std.specs.Prelude.{◌≡◌, ◌≤◌, true, List, Some, Ok, filter}
use Rattle.units.specs.Words.{Moment}
use Rattle.identifiers.specs.Words.{AccountName, VoucherCode}
use Rattle.voucher_rules.specs.declared.terms.VoucherTerms.{VoucherTerms}
use Rattle.voucher_rules.specs.declared.redeeming.Redemption.{Redemption}
use Rattle.voucher_rules.specs.Standing.{is_spent, spent_by, terms_under}
use Rattle.voucher_rules.specs.Redeeming.{DayEnds, redemption}
use Rattle.voucher_rules.specs.Histories.{VoucherCommand, Adds, Redeems, Vouchers, is_about}
use Rattle.voucher_rules.specs.Histories.{with_command, with_commands, redemption_count}

-- after its redemption a voucher stands there spent by the account, with its terms, and a spent one
-- stands as it is, whatever comes
pub record IsSpent (day_end : DayEnds) (vouchers : Vouchers) (code : VoucherCode) : Type 0 where
  pub redeemed : (account : AccountName) (t : Moment) (r : Redemption) (terms : VoucherTerms) →
      terms_under (vouchers code) ≡ Some terms →
      redemption day_end (vouchers code) account t ≡ Ok r →
      with_command day_end (Redeems code account t) vouchers code ≡ Some (spent_by account terms)
  pub kept : (cs : List VoucherCommand) → is_spent (vouchers code) ≡ true →
      with_commands day_end cs vouchers code ≡ vouchers code

-- rule: redeemed-once
abbrev pub IsSpentForGood : Type 0
IsSpentForGood = (day_end : DayEnds) (vouchers : Vouchers) (code : VoucherCode) →
    IsSpent day_end vouchers code

-- rule: redeemed-once: a voucher is redeemed once, and is spent for good
abbrev pub IsRedeemedOnce : Type 0
IsRedeemedOnce =
    (day_end : DayEnds) (code : VoucherCode) (cs : List VoucherCommand) (vouchers : Vouchers) →
    redemption_count day_end code cs vouchers ≤ 1

-- a voucher of these terms stands under the code: no addition changes anything, and no command
-- changes the terms
pub record IsStanding (day_end : DayEnds) (vouchers : Vouchers) (code : VoucherCode)
    (terms : VoucherTerms) : Type 0 where
  pub added : (others : VoucherTerms) (k : VoucherCode) →
      with_command day_end (Adds code others) vouchers k ≡ vouchers k
  pub terms_kept : (cs : List VoucherCommand) →
      terms_under (with_commands day_end cs vouchers code) ≡ Some terms

-- rule: redeemed-once.stands-for-good: a voucher's terms stay, whatever is added; each code by its
--   own commands
abbrev pub StandsForGood : Type 0
StandsForGood = (day_end : DayEnds) (vouchers : Vouchers) (code : VoucherCode)
    (terms : VoucherTerms) →
    terms_under (vouchers code) ≡ Some terms → IsStanding day_end vouchers code terms

-- rule: redeemed-once.stands-for-good
abbrev pub CodesAreApart : Type 0
CodesAreApart =
    (day_end : DayEnds) (code : VoucherCode) (cs : List VoucherCommand) (vouchers : Vouchers) →
    with_commands day_end cs vouchers code
    ≡ with_commands day_end (filter (is_about code) cs) vouchers code
