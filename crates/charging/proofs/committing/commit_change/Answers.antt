use Rattle.charging.proofs.outcomes.Serving.{commits-same, left_as, on_ok}
use Rattle.charging.proofs.committing.commit_change.Goals as goal

pub returns-clause-done : goal.returns-clause-done
returns-clause-done g c = λ clean.
    on_ok c.commit.result (c.commit.ensures.done clean)
    (commits-same c.in_ok-change.change _ (g.K.Keeper.seen c.args.keeper.now).tables
    (g.K.Keeper.seen c.commit.new.self).tables c.in_ok-change.ensures)

pub returns-clause-left : goal.returns-clause-left
returns-clause-left g c = λ honest t l.
    left_as (c.commit.ensures.kept.left honest t l) (λ before. before)
    (commits-same c.in_ok-change.change _ (g.K.Keeper.seen c.args.keeper.now).tables t
    c.in_ok-change.ensures)
