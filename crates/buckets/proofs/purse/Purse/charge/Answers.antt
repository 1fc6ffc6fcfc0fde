use Rattle.std.proofs.Common.{◌≡◌, ap, subst, ◌∙◌}
use Rattle.buckets.specs.declared.kind.Due.{Due}
use Rattle.buckets.specs.Kinds.{due}
use Rattle.buckets.specs.Holding.{unpaid}
use Rattle.buckets.proofs.Parts.{charged_as}
use Rattle.buckets.proofs.purse.Purse.charge.Goals as goal

pub returns : goal.returns
returns c =
    let says = c.in_ok-unpaid.ensures in
    let left : c.in_ok-unpaid.unpaid
    ≡ unpaid c.args.holds.now c.args.group c.args.at (due c.args.amount.0 0) c.args.self.now =
    subst (λ (d : Due). c.in_ok-unpaid.unpaid
    ≡ unpaid c.args.holds.now c.args.group c.args.at d c.args.self.now) c.due_of.ensures says.unpaid in
    record {
      charges = charged_as c.due_of.ensures says.charges;
      uncollected = c.charged_of.ensures.uncollected ∙ ap (λ (d : Due). d.money) left;
      collected = c.charged_of.ensures.collected;
    }
