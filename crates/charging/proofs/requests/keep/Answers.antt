use Rattle.std.proofs.Common.{Some, None, subst}
use Rattle.commands.specs.declared.answer.Answer.TheVariants as answer
use Rattle.commands.specs.declared.command.Content.TheVariants as content
use Rattle.charging.specs.Stepping.{CommitsOver, change_for}
use Rattle.charging.proofs.requests.keep.Goals as goal

pub returns : goal.returns
returns g c =
    subst (λ own. CommitsOver (change_for own c.args.loaded c.args.decided.charges (Some (record {
      content = content.Request c.args.request;
      answer = answer.Request c.args.decided.answer;
    })) None) (answer.Request c.args.decided.answer) (g.K.Keeper.seen c.args.keeper.now)
    (g.K.Keeper.seen c.commit.new.keeper) c.commit.result) c.as_ref.ensures.value
    c.commit.ensures.commits
