-- The parts of what accepted commands leave, and of what a command is answered after them, each by
-- itself, as lemmas speak of them. The definitions of `Accepted` and `Served` compute to these.
-- Source: profile.
use Rattle.std.specs.Prelude.{Bool, true, false, List, Option}
use Rattle.charging.specs.Accepted.{about, CodeUse, adds_code, redeems_code, no_code, Accepted}
use Rattle.charging.specs.Accepted.{Concerned, one, each, none, account_count}
use Rattle.charging.specs.Histories.{no_history}
use Rattle.charging.specs.Outcomes.{outcome}
use Rattle.charging.specs.Served.{history, standing}
use Rattle.commands.specs.declared.answer.Answer.{Answer}
use Rattle.commands.specs.declared.answer.Answer.TheVariants.{Swept}
use Rattle.commands.specs.declared.command.Command.{Command}
use Rattle.identifiers.specs.Texts.{same_name}
use Rattle.identifiers.specs.Words.{VoucherCode}
use Rattle.shelves.specs.Shelves.{Shelf}
use Rattle.units.specs.Words.{Moment}
use Rattle.voucher_rules.specs.Adding.{addition, after_addition}
use Rattle.voucher_rules.specs.Redeeming.{DayEnds, redemption, after_redemption}
use Rattle.voucher_rules.specs.declared.voucher.Voucher.{Voucher}

abbrev pub is_opening : Command → Bool
is_opening c = (about c).opens

-- a command names this code
abbrev pub names_code : VoucherCode → Command → Bool
names_code code c = is_under (about c).code
  where
    is_under : CodeUse → Bool
    is_under (adds_code added terms) = same_name added code
    is_under (redeems_code redeemed account) = same_name redeemed code
    is_under no_code = false

-- what is under the code that it names, once it is accepted
abbrev pub voucher_after : DayEnds → Command → Moment → Option Voucher → Option Voucher
voucher_after ends c t found = used found (about c).code
  where
    used : Option Voucher → CodeUse → Option Voucher
    used found (adds_code added terms) = after_addition (addition found terms) found
    used found (redeems_code redeemed account) =
        after_redemption (redemption ends found account t) found
    used found no_code = found

abbrev pub answer_on : Concerned → Shelf → List Accepted → Command → Moment → Answer
answer_on who b list c t = by_account who
  where
    by_account : Concerned → Answer
    by_account each = Swept (account_count list)
    by_account none = (outcome b (standing b c list) no_history c t).answer
    by_account (one a) = (outcome b (standing b c list) (history b a list) c t).answer

abbrev pub accepts_on : Concerned → Shelf → List Accepted → Command → Moment → Bool
accepts_on who b list c t = by_account who
  where
    by_account : Concerned → Bool
    by_account each = true
    by_account none = (outcome b (standing b c list) no_history c t).accepted
    by_account (one a) = (outcome b (standing b c list) (history b a list) c t).accepted
