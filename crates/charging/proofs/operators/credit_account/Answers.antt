use Rattle.std.proofs.Common.{◌≡◌, ap, refl, Some, None, rules}
use Rattle.commands.specs.declared.answer.Answer.TheVariants as answer
use Rattle.commands.specs.declared.command.Command.TheVariants as command
use Rattle.commands.specs.declared.command.Content.TheVariants as content
use Rattle.commands.specs.Keys.{key_of}
use Rattle.shelves.specs.Shelves.{Shelf}
use Rattle.keepers.specs.Tables.{Tables}
use Rattle.charging.specs.Stepping.{Answers, Commits, IsFirstAsked}
use Rattle.charging.proofs.outcomes.PartsServed.{committed_given}
use Rattle.charging.proofs.outcomes.Serving.{served-as}
use Rattle.charging.proofs.outcomes.Operated.{credit-told, credit-done, made_change, made_tells}
use Rattle.charging.proofs.operators.credit_account.Goals as goal
use Rattle.charging.proofs.operators.credit_account.Goals.{After-commit}

-- what its commit makes is what the credit comes to
done : (g : _) (c : After-commit g) (t : Tables) →
    Commits (made_change c.args.loaded c.add_bucket.new.account c.new-charges.result
    (Some (record {
      content = c.kept_credit.result;
      answer = answer.Bucket c.in-Ok-Some.number;
    })) None) (g.K.Keeper.seen c.args.keeper.now).tables t → (b : Shelf) →
    IsFirstAsked c.args.moment c.args.credit.account (key_of (content.Credit c.args.credit))
    c.args.loaded (g.K.Keeper.seen c.args.keeper.now).tables b →
    Answers b (command.Credit c.args.credit) c.args.moment
    (g.K.Keeper.seen c.args.keeper.now).tables t (answer.Bucket c.in-Ok-Some.number)
done g c t made = λ b first list time is le.
    credit-done b list c.args.credit c.args.moment (g.K.Keeper.seen c.args.keeper.now).tables t
    c.args.loaded time le is
    (record { load = first.load; account = c.moment_on-moment.ensures.kept })
    c.moment_on-moment.result first.fresh c.moment_on-moment.ensures.value c.in-Ok-Some.field-0
    c.add_bucket.new.account c.in-Ok-Some.ensures.credits
    c.in-Ok-Some.number
    (made_change c.args.loaded c.add_bucket.new.account c.new-charges.result
    (Some (record {
      content = c.kept_credit.result;
      answer = answer.Bucket c.in-Ok-Some.number;
    })) None)
    c.in-Ok-Some.field-0-is c.in-Ok-Some.ensures.tariff c.in-Ok-Some.ensures.moment
    (made_tells c.args.loaded c.add_bucket.new.account c.new-charges.result
    (Some (record {
      content = c.kept_credit.result;
      answer = answer.Bucket c.in-Ok-Some.number;
    })) _ None None c.new-charges.ensures.items
    (λ i. Some (record {
      content = c.kept_credit.ensures i;
      answer = answer.Bucket c.in-Ok-Some.number;
    })) refl) made

pub returns-in-Ok-Some : goal.returns-in-Ok-Some
returns-in-Ok-Some g c = committed_given (answer.Bucket c.in-Ok-Some.number) refl
    c.commit.ensures.commits (done g (goal.at.returns-in-Ok-Some g c).After-commit)

pub returns-in_ok-refuse-in-Ok-None : goal.returns-in_ok-refuse-in-Ok-None
returns-in_ok-refuse-in-Ok-None g c = record {
  served = λ clean b first list time is le.
      served-as b list (command.Credit c.args.credit) c.args.moment
      (g.K.Keeper.seen c.args.keeper.now).tables (g.K.Keeper.seen c.abandon.new.self).tables
      c.in_ok-refuse-in-Ok-None.field-0 _ c.in_ok-refuse-in-Ok-None.ensures
      (credit-told b list c.args.credit c.args.moment (g.K.Keeper.seen c.args.keeper.now).tables
      (g.K.Keeper.seen c.abandon.new.self).tables c.args.loaded time le is
      (record { load = first.load; account = c.moment_on-moment.ensures.kept })
      c.moment_on-moment.result first.fresh c.moment_on-moment.ensures.value c.in-Ok-None.field-0
      c.add_bucket.new.account c.in-Ok-None.ensures.credits
      c.in-Ok-None.field-0-is (ap (λ k. (g.K.Keeper.seen k).tables) c.abandon.ensures));
  refused = λ clean e. ap (λ k. (g.K.Keeper.seen k).tables) c.abandon.ensures;
  kept = search rules;
  left = search rules;
}
