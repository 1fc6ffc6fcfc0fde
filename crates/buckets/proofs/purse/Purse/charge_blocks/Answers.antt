use Rattle.std.proofs.Common.{◌≡◌, ◌-◌, ap, subst, arith}
use Rattle.buckets.specs.declared.kind.BucketKind.TheVariants.{Blocks}
use Rattle.buckets.specs.declared.kind.Due.{Due}
use Rattle.buckets.specs.Kinds.{due}
use Rattle.buckets.specs.Spend.{allowance}
use Rattle.buckets.specs.Holding.{held_sum, unpaid}
use Rattle.buckets.proofs.Parts.{charged_as}
use Rattle.buckets.proofs.purse.Purse.charge_blocks.Goals as goal

pub returns : goal.returns
returns c =
    let says = c.in_ok-unpaid.ensures in
    let left : c.in_ok-unpaid.unpaid
    ≡ unpaid c.args.holds.now c.args.group c.args.at (due 0 c.args.blocks.0) c.args.self.now =
    subst (λ (d : Due). c.in_ok-unpaid.unpaid
    ≡ unpaid c.args.holds.now c.args.group c.args.at d c.args.self.now) c.due_of.ensures says.unpaid in
    let blocks : c.in_ok-unpaid.unpaid.blocks
    ≡ c.args.blocks.0 - held_sum Blocks c.args.holds.now c.args.self.now
    - allowance c.args.group c.args.at c.args.self.now =
    ap (λ (d : Due). d.blocks) left in
    record {
      charges = charged_as c.due_of.ensures says.charges;
      covered = grind (arith, blocks);
    }
