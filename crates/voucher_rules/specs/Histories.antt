-- What commands about vouchers leave under the codes.
-- Source: profile.
use Rattle.std.specs.Prelude.{ℕ, ◌+◌, ◌&&◌, Bool, false, List, [], ◌∷◌, Option, is_ok}
use Rattle.std.specs.Prelude.{if◌then◌else◌}
use Rattle.units.specs.Words.{Moment}
use Rattle.identifiers.specs.Words.{AccountName, VoucherCode}
use Rattle.identifiers.specs.Texts.{same_name}
use Rattle.voucher_rules.specs.declared.terms.VoucherTerms.{VoucherTerms}
use Rattle.voucher_rules.specs.declared.voucher.Voucher.{Voucher}
use Rattle.voucher_rules.specs.Adding.{addition, after_addition}
use Rattle.voucher_rules.specs.Redeeming.{DayEnds, redemption, after_redemption}

-- a voucher is added under a code; an account redeems one at a moment
pub data VoucherCommand : Type 0 where
  Adds : (code : VoucherCode) (terms : VoucherTerms) → VoucherCommand
  Redeems : (code : VoucherCode) (account : AccountName) (moment : Moment) → VoucherCommand

-- the code that it names
abbrev pub code_of : VoucherCommand → VoucherCode
code_of (Adds code terms) = code
code_of (Redeems code account t) = code

-- it is about this code
abbrev pub is_about : VoucherCode → VoucherCommand → Bool
is_about code c = same_name (code_of c) code

-- what is under its code after a command
abbrev pub after_command : DayEnds → VoucherCommand → Option Voucher → Option Voucher
after_command day_end (Adds code terms) found = after_addition (addition found terms) found
after_command day_end (Redeems code account t) found =
    after_redemption (redemption day_end found account t) found

-- it redeems what is under its code
abbrev pub is_redeeming : DayEnds → VoucherCommand → Option Voucher → Bool
is_redeeming day_end (Adds code terms) found = false
is_redeeming day_end (Redeems code account t) found = is_ok (redemption day_end found account t)

-- what is under each code
abbrev pub Vouchers : Type 0
Vouchers = VoucherCode → Option Voucher

abbrev pub with_command : DayEnds → VoucherCommand → Vouchers → Vouchers
with_command day_end c vouchers code =
    if is_about code c then after_command day_end c (vouchers code) else vouchers code

-- after commands, the first of them first
-- rule: redeemed-once.voucher-commands
abbrev pub with_commands : DayEnds → List VoucherCommand → Vouchers → Vouchers
with_commands day_end [] vouchers = vouchers
with_commands day_end (c ∷ cs) vouchers =
    with_commands day_end cs (with_command day_end c vouchers)

-- how often a code is redeemed by them
abbrev pub redemption_count : DayEnds → VoucherCode → List VoucherCommand → Vouchers → ℕ
redemption_count day_end code [] vouchers = 0
redemption_count day_end code (c ∷ cs) vouchers =
    (if is_about code c && is_redeeming day_end c (vouchers code) then 1 else 0)
    + redemption_count day_end code cs (with_command day_end c vouchers)
