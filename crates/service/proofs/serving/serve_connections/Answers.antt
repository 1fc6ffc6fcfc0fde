use Rattle.std.proofs.Common.{arith, le_refl, inl}
use Rattle.http_api.proofs.Continuing.{continued_more, continued_none, leaves_more}
use Rattle.service.proofs.FaultLines.{faults_more, faults_none}
use Rattle.service.proofs.serving.serve_connections.Goals as goal

pub loop-served-init : goal.loop-served-init
loop-served-init g c = record {
  told = faults_none (g.E.Write.contents c.args.errors.now);
  few = le_refl 0;
  continued = λ clean. continued_none c.args.shelf.now (g.K.Keeper.seen c.args.keeper.now).tables;
  cleanness = λ clean. clean;
  honesty = λ honest. honest;
  left = λ honest t l. inl l;
  failures = le_refl (g.K.Keeper.seen c.args.keeper.now).failed;
}

pub loop-served-preserved : goal.loop-served-preserved
loop-served-preserved g c = record {
  told =
      faults_more c.loop-served.failed c.serve_next-failed.result
      (g.E.Write.contents c.args.errors.now) (g.E.Write.contents c.loop-served.errors)
      (g.E.Write.contents c.serve_next-failed.new.errors)
      c.loop-served.invariant.told c.serve_next-failed.ensures.told;
  few = omega (arith, c.loop-served.invariant.few, c.serve_next-failed.ensures.bounded);
  continued = λ clean.
      continued_more c.args.shelf.now (g.K.Keeper.seen c.args.keeper.now).tables
      (g.K.Keeper.seen c.loop-served.keeper).tables
      (g.K.Keeper.seen c.serve_next-failed.new.keeper).tables
      (c.loop-served.invariant.continued (c.serve_next-failed.ensures.cleanness clean))
      (c.serve_next-failed.ensures.continued clean);
  cleanness = λ clean.
      c.loop-served.invariant.cleanness (c.serve_next-failed.ensures.cleanness clean);
  honesty = λ honest.
      c.loop-served.invariant.honesty (c.serve_next-failed.ensures.honesty honest);
  left = leaves_more c.args.shelf.now (g.K.Keeper.seen c.args.keeper.now)
      (g.K.Keeper.seen c.loop-served.keeper) (g.K.Keeper.seen c.serve_next-failed.new.keeper)
      c.loop-served.invariant.cleanness c.loop-served.invariant.continued
      c.serve_next-failed.ensures.honesty c.loop-served.invariant.left
      c.serve_next-failed.ensures.left;
  failures = omega (arith, c.loop-served.invariant.failures, c.serve_next-failed.ensures.failures);
}
