use Rattle.std.proofs.Common.{◌∙◌, sym}
use Rattle.charging.proofs.outcomes.Operated.{credits_made}
use Rattle.charging.proofs.operators.add_bucket.Goals as goal

pub returns-clause-credits : goal.returns-clause-credits
returns-clause-credits c =
    credits_made c.make_bucket.result c.args.credit.now c.args.moment c.from_at-from.result
    c.end-until.result c.args.account.now c.make_bucket.new.account c.from_at-from.ensures
    c.end-until.ensures (sym c.is_unusable.ensures ∙ c.if-is_unusable.false)
    c.make_bucket.ensures.makes
