-- When two requests, two credits, two allowances or two redemptions are the same, as the program
-- tests it: `same_request`, `same_credit`, `same_allowance` and `same_redemption` of the code say
-- that the tests are true exactly of equal values.
use Rattle.std.specs.Prelude.{Bool}
use Rattle.commands.specs.declared.request.Request.{Request}
use Rattle.commands.specs.declared.allowance.Allowance.{Allowance}
use Rattle.commands.specs.declared.command.Credit.{Credit}
use Rattle.commands.specs.declared.command.VoucherRedemption.{VoucherRedemption}
use Rattle.commands.specs.contracts.request.RequestPartialEq.TheImpl.{ghosts as request}
use Rattle.commands.specs.contracts.allowance.AllowancePartialEq.TheImpl.{ghosts as allowance}
use Rattle.commands.specs.contracts.command.CreditPartialEq.TheImpl.{ghosts as credit}
use Rattle.commands.specs.contracts.command.VoucherRedemptionPartialEq.TheImpl.{
  ghosts as redemption,
}

-- rule: equal-content: when two contents are equal
abbrev pub same_request : Request → Request → Bool
same_request = request.eq

-- rule: equal-content
abbrev pub same_credit : Credit → Credit → Bool
same_credit = credit.eq

-- rule: equal-content
abbrev pub same_allowance : Allowance → Allowance → Bool
same_allowance = allowance.eq

abbrev pub same_redemption : VoucherRedemption → VoucherRedemption → Bool
same_redemption = redemption.eq
