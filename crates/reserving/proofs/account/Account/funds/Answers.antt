use Rattle.std.proofs.Common.{ap, ◌∙◌}
use Rattle.buckets.specs.Spend.{funds}
use Rattle.reserving.proofs.Advancing.{IsRowsOf-advanced}
use Rattle.reserving.proofs.LeftReadings.{funds_told}
use Rattle.reserving.proofs.account.Account.funds.Goals as goal

pub returns : goal.returns
returns c = record {
  rows = c.sum_later.ensures.rows;
  ledger =
      λ ledger rows.
      c.sum_later.ensures.rows
      ∙ ap (funds c.args.group c.args.moment)
      (IsRowsOf-advanced ledger c.args.self.now c.args.moment c.sum_later.ensures.account rows
      c.requires).buckets;
  left =
      λ ledger left h. c.sum_later.ensures.rows
      ∙ funds_told ledger left c.args.moment c.args.self.now c.args.group c.requires h;
}
