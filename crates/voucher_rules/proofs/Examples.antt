-- Vouchers as the definitions add and redeem them, where a day's end is given.
use Rattle.std.proofs.Common.{◌≡◌, ℕ, List, [], ◌∷◌, true, false, Some, None, codes, refl}
use Rattle.std.specs.Prelude.{Ok, Err}
use Rattle.voucher_rules.specs.declared.terms.VoucherTerms.{VoucherTerms}
use Rattle.voucher_rules.specs.declared.adding.Addition.TheVariants.{New, Present, Conflicting}
use Rattle.voucher_rules.specs.declared.redeeming.RedeemRefusal.TheVariants.{VoucherUnknown}
use Rattle.voucher_rules.specs.declared.redeeming.RedeemRefusal.TheVariants.{VoucherSpent}
use Rattle.voucher_rules.specs.declared.redeeming.RedeemRefusal.TheVariants.{EndOutOfRange}
use Rattle.voucher_rules.specs.Terms.{are_terms}
use Rattle.voucher_rules.specs.Standing.{unspent, spent_by}
use Rattle.voucher_rules.specs.Adding.{addition}
use Rattle.voucher_rules.specs.Redeeming.{DayEnds, bucket_end, redemption}
use Rattle.voucher_rules.specs.Histories.{VoucherCommand, Adds, Redeems, Vouchers, with_commands}
use Rattle.voucher_rules.specs.Histories.{redemption_count}

abbrev thirty_days : VoucherTerms
thirty_days = record { amount = 5000000; days = Some 30; scope = None }

abbrev seven_days : VoucherTerms
seven_days = record { amount = 1000000; days = Some 7; scope = Some 20 }

abbrev seven_days_for_more : VoucherTerms
seven_days_for_more = record { amount = 2000000; days = Some 7; scope = Some 20 }

abbrev without_days : VoucherTerms
without_days = record { amount = 1; days = None; scope = None }

-- 30 days from 2026-01-05 on end with 2026-02-04, in UTC
abbrev in_february : DayEnds
in_february t days = Some 1770249600

-- ---- terms

pub least : are_terms 1 (Some 1) ≡ true
least = refl

pub greatest : are_terms 1_000_000_000_000_000 (Some 3650) ≡ true
greatest = refl

pub nothing : are_terms 0 (Some 30) ≡ false
nothing = refl

pub too_much : are_terms 1_000_000_000_000_001 None ≡ false
too_much = refl

pub no_day : are_terms 5 (Some 0) ≡ false
no_day = refl

pub too_long : are_terms 5 (Some 3651) ≡ false
too_long = refl

-- ---- additions

pub new : addition None thirty_days ≡ New (unspent thirty_days)
new = refl

pub present : addition (Some (unspent thirty_days)) thirty_days ≡ Present
present = refl

pub present_spent : addition (Some (spent_by (codes "49151") thirty_days)) thirty_days ≡ Present
present_spent = refl

pub conflicting : addition (Some (unspent seven_days)) seven_days_for_more ≡ Conflicting
conflicting = refl

pub conflicting_spent :
    addition (Some (spent_by (codes "49151") seven_days)) seven_days_for_more ≡ Conflicting
conflicting_spent = refl

-- ---- redemptions

pub redeemed : redemption in_february (Some (unspent thirty_days)) (codes "49151") 1767607200
    ≡ Ok (record {
      amount = 5000000;
      from = 1767607200;
      until = 1770249600;
      scope = None;
      voucher = spent_by (codes "49151") thirty_days;
    })
redeemed = refl

-- refused to another account
pub spent : redemption in_february (Some (spent_by (codes "49151") thirty_days)) (codes "49152")
    1767607200 ≡ Err VoucherSpent
spent = refl

pub unknown : redemption in_february None (codes "49151") 1767607200 ≡ Err VoucherUnknown
unknown = refl

-- ---- ends

pub no_end : bucket_end in_february without_days 1767607200 ≡ Some 4102444800
no_end = refl

pub last_end : bucket_end (λ t days. Some 4102444799) thirty_days 4099852800 ≡ Some 4102444799
last_end = refl

pub past_end : bucket_end (λ t days. Some 4102444800) thirty_days 4099852800 ≡ None
past_end = refl

pub refused : redemption (λ t days. None) (Some (unspent thirty_days)) (codes "49151") 4102444799
    ≡ Err EndOutOfRange
refused = refl

-- that it is spent is told before that its days end too late
pub spent_first :
    redemption (λ t days. None) (Some (spent_by (codes "49151") thirty_days)) (codes "49151")
    4102444799 ≡ Err VoucherSpent
spent_first = refl

-- ---- a day of commands

abbrev one : List ℕ
one = codes "000000000001"

abbrev commands : List VoucherCommand
commands =
    Adds one thirty_days ∷ Adds (codes "000000000003") seven_days
    ∷ Redeems one (codes "49151") 1767607200 ∷ Redeems one (codes "49152") 1767607200
    ∷ Adds one thirty_days ∷ Adds one seven_days ∷ Redeems one (codes "49151") 1767607201 ∷ []

abbrev none : Vouchers
none code = None

pub first_only : redemption_count in_february one commands none ≡ 1
first_only = refl

pub stands_spent :
    with_commands in_february commands none one ≡ Some (spent_by (codes "49151") thirty_days)
stands_spent = refl
