use Rattle.std.proofs.Common.{◌≡◌, ◌≤◌, ◌+◌, ◌*◌, drop}
use Rattle.buckets.specs.Share.{sum_in}
use Rattle.statements.proofs.foot.charged_to.Given as goal

abbrev pub invariant-loop-bucket : goal.invariant-loop-bucket
invariant-loop-bucket l = record {
  sum : l.charged + sum_in l.kind (λ b. b.charged) (drop l.bucket-index l.buckets)
      ≡ sum_in l.fn.kind (λ b. b.charged) l.fn.buckets;
  small : l.charged ≤ 1000000000000000 * l.bucket-index;
}
