use Rattle.std.proofs.Common.{ap, subst, inl}
use Rattle.std.proofs.lemmas.Result.{err_from_is_err_and}
use Rattle.keepers.proofs.Placed.{on_err, not_ok}
use Rattle.keepers.proofs.Raised.{raised_cause}
use Rattle.keepers.proofs.failing.FailingKeeper.commit.Goals as goal

pub returns-in_err-turn-clause-kept : goal.returns-in_err-turn-clause-kept
returns-in_err-turn-clause-kept c = λ c'.
    let raised = c'.in_err-turn.ensures.raised in
    let p = err_from_is_err_and c'.from_residual.result c'.from_residual.ensures.1 in
    record {
      err = λ clean. on_err c'.from_residual.result
          (ap (λ k. (c.K.Keeper.seen k).tables) c'.turn.ensures.same);
      cleanness = λ clean. subst (λ k. (c.K.Keeper.seen k).clean) c'.turn.ensures.same clean;
      honesty = λ honest. subst (λ k. (c.K.Keeper.seen k).honest) c'.turn.ensures.same honest;
      stands = λ honest. not_ok (c.K.Keeper.seen c'.turn.new.self.inner).clean
          c'.from_residual.result p.0 p.1;
      left = λ honest t l. inl (subst (λ k. (c.K.Keeper.seen k).left t) c'.turn.ensures.same l);
      cause = raised_cause (c.K.Keeper.seen c'.args.self.now.inner).failed
          (c.K.Keeper.seen c'.turn.new.self.inner).failed c'.args.self.now.failed
          c'.turn.new.self.failed c'.from_residual.result
          (c.met.K.Keeper.bounded c'.args.self.now.inner)
          (ap (λ k. (c.K.Keeper.seen k).failed) c'.turn.ensures.same) raised.1 raised.2;
    }
