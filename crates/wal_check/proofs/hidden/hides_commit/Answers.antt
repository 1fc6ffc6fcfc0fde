use Rattle.std.proofs.Common.{rules, arith}
use Rattle.wal_check.proofs.Hiding.{begun, gone_on}
use Rattle.wal_check.proofs.hidden.hides_commit.Goals as goal

pub loop-step-init : goal.loop-step-init
loop-step-init g c = (
  λ clean.
      let before = c.read_opened.ensures.same.clean clean in
      let passes = rw c.in-Some.is at (c.in_ok-frame.ensures.passes clean) in
      begun _ _ _ _ _ (c.requires.place before) passes.0 passes.1 c.behind-next.ensures.frame c.behind-next.ensures.at c.behind-next.ensures.sum,
  search rules,
  search rules,
  omega (arith, c.behind-next.ensures.frame, c.behind-next.ensures.at, c.requires.few),
  c.behind-next.ensures.frame,
)

pub loop-step-preserved : goal.loop-step-preserved
loop-step-preserved g c = (
  λ clean.
      let inv = c.loop-step.invariant in
      let before = c.read_frame.ensures.same.clean clean in
      let passes = rw (c.in-Some-2.is, inv.1.seen) at (c.in_ok-found.ensures.passes clean) in
      gone_on _ _ _ _ _ _ _ _ (inv.0 before) c.has_size-commits.ensures c.if-commits.false passes.0 passes.1
      c.behind-next-in-loop-step.ensures.frame c.behind-next-in-loop-step.ensures.at c.behind-next-in-loop-step.ensures.sum,
  search rules,
  search rules,
  omega (arith, c.behind-next-in-loop-step.ensures.frame, c.behind-next-in-loop-step.ensures.at, c.loop-step.invariant.3),
  omega (arith, c.behind-next-in-loop-step.ensures.frame, c.loop-step.invariant.4),
)
