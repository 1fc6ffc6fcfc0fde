use Rattle.std.proofs.Common.{◌≡◌, ap, refl, Some, None, rules}
use Rattle.commands.specs.declared.answer.Answer.TheVariants as answer
use Rattle.commands.specs.declared.command.Command.TheVariants as command
use Rattle.commands.specs.declared.command.Content.TheVariants as content
use Rattle.commands.specs.Keys.{key_of}
use Rattle.shelves.specs.Shelves.{Shelf}
use Rattle.keepers.specs.Tables.{Tables}
use Rattle.charging.specs.Stepping.{Answers, Commits, IsFirstAsked}
use Rattle.charging.proofs.outcomes.PartsServed.{committed_given}
use Rattle.charging.proofs.outcomes.Serving.{served-as}
use Rattle.charging.proofs.outcomes.Operated.{made_change, made_tells}
use Rattle.charging.proofs.outcomes.Allowing.{allow-told, allow-done}
use Rattle.charging.proofs.allowances.allow_account.Goals as goal
use Rattle.charging.proofs.allowances.allow_account.Goals.{After-commit}

-- what its commit makes is what the allowance comes to
done : (g : _) (c : After-commit g) (t : Tables) →
    Commits (made_change c.args.loaded c.add_allowance.new.account c.new.result
    (Some (record {
      content = content.Allow c.args.allowance;
      answer = answer.Bucket c.in-Ok-Ok.number;
    })) None) (g.K.Keeper.seen c.args.keeper.now).tables t →
    (b : Shelf) → IsFirstAsked c.args.moment c.args.allowance.account
    (key_of (content.Allow c.args.allowance)) c.args.loaded
    (g.K.Keeper.seen c.args.keeper.now).tables b →
    Answers b (command.Allow c.args.allowance) c.args.moment
    (g.K.Keeper.seen c.args.keeper.now).tables t (answer.Bucket c.in-Ok-Ok.number)
done g c t made = λ b first list time is le.
    allow-done b list c.args.allowance c.args.moment (g.K.Keeper.seen c.args.keeper.now).tables t
    c.args.loaded time le is
    (record { load = first.load; account = c.moment_on-moment.ensures.kept })
    c.moment_on-moment.result first.fresh c.moment_on-moment.ensures.value c.in-Ok-Ok.field-0
    c.add_allowance.new.account c.in-Ok-Ok.ensures.allows
    c.in-Ok-Ok.number
    (made_change c.args.loaded c.add_allowance.new.account c.new.result
    (Some (record {
      content = content.Allow c.args.allowance;
      answer = answer.Bucket c.in-Ok-Ok.number;
    })) None)
    c.in-Ok-Ok.field-0-is c.in-Ok-Ok.ensures.tariff c.in-Ok-Ok.ensures.moment
    (made_tells c.args.loaded c.add_allowance.new.account c.new.result
    (Some (record {
      content = content.Allow c.args.allowance;
      answer = answer.Bucket c.in-Ok-Ok.number;
    })) _ None None c.new.ensures.items
    refl refl) made

pub returns-in-Ok-Ok : goal.returns-in-Ok-Ok
returns-in-Ok-Ok g c = committed_given (answer.Bucket c.in-Ok-Ok.number) refl
    c.commit.ensures.commits (done g (goal.at.returns-in-Ok-Ok g c).After-commit)

pub returns-in_ok-refuse-in-Ok-Err : goal.returns-in_ok-refuse-in-Ok-Err
returns-in_ok-refuse-in-Ok-Err g c = record {
  served = λ clean b first list time is le.
      served-as b list (command.Allow c.args.allowance) c.args.moment
      (g.K.Keeper.seen c.args.keeper.now).tables (g.K.Keeper.seen c.abandon.new.self).tables
      c.in_ok-refuse-in-Ok-Err.field-0 _ c.in_ok-refuse-in-Ok-Err.ensures
      (allow-told b list c.args.allowance c.args.moment (g.K.Keeper.seen c.args.keeper.now).tables
      (g.K.Keeper.seen c.abandon.new.self).tables c.args.loaded time le is
      (record { load = first.load; account = c.moment_on-moment.ensures.kept })
      c.moment_on-moment.result first.fresh c.moment_on-moment.ensures.value c.in-Ok-Err.field-0
      c.add_allowance.new.account c.in-Ok-Err.ensures.allows c.in-Ok-Err.refusal
      c.in-Ok-Err.field-0-is (ap (λ k. (g.K.Keeper.seen k).tables) c.abandon.ensures));
  refused = λ clean e. ap (λ k. (g.K.Keeper.seen k).tables) c.abandon.ensures;
  kept = search rules;
  left = search rules;
}
