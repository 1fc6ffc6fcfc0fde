use Rattle.std.proofs.Common.{◌∙◌, ap, List, ℕ, Option, rules}
use Rattle.std.specs.Prelude.{option_copied}
use Rattle.keepers.specs.declared.kept_answer.KeptAnswer.{KeptAnswer}
use Rattle.charging.specs.Stepping.{change_for, kept_as}
use Rattle.charging.proofs.outcomes.Serving.{commits-same, left_as}
use Rattle.charging.proofs.committing.commit.Goals as goal

pub returns-clause-commits : goal.returns-clause-commits
returns-clause-commits g c =
    let own : Option (List ℕ) = option_copied c.args.own in
    let same = ap (λ (kept : Option KeptAnswer).
    change_for own c.args.loaded c.args.charges kept c.args.redeemed)
    (c.in-Ok-kept_as.ensures ∙ ap (kept_as c.args.content) c.in-Ok.ensures) in
    record {
      done = λ clean. (
        c.in-Ok.ensures,
        commits-same _ _ (g.K.Keeper.seen c.args.keeper.now).tables
            (g.K.Keeper.seen c.commit_change.new.keeper).tables same
            (c.in_ok-commit_change.ensures.done clean),
      );
      kept = search rules;
      left = λ honest t l. left_as (c.commit_change.ensures.left honest t l) (λ before. before)
          (commits-same _ _ (g.K.Keeper.seen c.args.keeper.now).tables t same);
    }

pub returns-in_err-commit_change-clause-commits : goal.returns-in_err-commit_change-clause-commits
returns-in_err-commit_change-clause-commits g c =
    let own : Option (List ℕ) = option_copied c.args.own in
    record {
      done = search rules;
      kept = search rules;
      left = λ honest t l. left_as (c.commit_change.ensures.left honest t l) (λ before. before)
          (commits-same _ _ (g.K.Keeper.seen c.args.keeper.now).tables t
          (ap (λ (kept : Option KeptAnswer).
          change_for own c.args.loaded c.args.charges kept c.args.redeemed)
          (c.in-Ok-kept_as.ensures ∙ ap (kept_as c.args.content) c.in-Ok.ensures)));
    }
