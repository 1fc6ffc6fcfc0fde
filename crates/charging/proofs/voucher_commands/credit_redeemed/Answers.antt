use Rattle.std.proofs.Common.{ap, refl, Some, rules}
use Rattle.commands.specs.declared.answer.Answer.TheVariants as answer
use Rattle.commands.specs.declared.command.Command.TheVariants as command
use Rattle.commands.specs.declared.command.Content.TheVariants as content
use Rattle.shelves.specs.Shelves.{Shelf}
use Rattle.keepers.specs.Tables.{Tables}
use Rattle.charging.specs.Stepping.{Answers, Commits, IsRedeemable}
use Rattle.charging.proofs.outcomes.PartsServed.{committed_given}
use Rattle.charging.proofs.outcomes.Serving.{served-as}
use Rattle.charging.proofs.outcomes.Operated.{made_change, made_tells}
use Rattle.charging.proofs.outcomes.Vouchered.{redeem-told, redeem-done}
use Rattle.charging.proofs.voucher_commands.credit_redeemed.Goals as goal
use Rattle.charging.proofs.voucher_commands.credit_redeemed.Goals.{After-commit}

-- what its commit makes is what the redemption comes to
done : (g : _) (c : After-commit g) (t : Tables) →
    Commits (made_change c.args.loaded c.make_bucket.new.account c.new-charges.result
    (Some (record {
      content = content.Redeem c.args.asked;
      answer = answer.Bucket c.in-Ok-Some.number;
    }))
    (Some (record { code = c.args.code; voucher = c.args.redeemed.voucher })))
    (g.K.Keeper.seen c.args.keeper.now).tables t → (b : Shelf) →
    IsRedeemable c.args.moment c.args.asked c.args.code c.args.redeemed c.args.loaded
    (g.K.Keeper.seen c.args.keeper.now).tables b →
    Answers b (command.Redeem c.args.asked) c.args.moment (g.K.Keeper.seen c.args.keeper.now).tables
    t (answer.Bucket c.in-Ok-Some.number)
done g c t made = λ b may list time is le.
    redeem-done b list c.args.asked c.args.moment (g.K.Keeper.seen c.args.keeper.now).tables t
    c.args.loaded time le is
    (record { load = may.first.load; account = c.moment_on-moment.ensures.kept })
    c.moment_on-moment.result may.first.fresh c.moment_on-moment.ensures.value c.args.redeemed
    may.redeems
    c.in-Ok-Some.field-0 c.make_bucket.new.account c.in-Ok-Some.ensures.makes
    c.in-Ok-Some.number
    (made_change c.args.loaded c.make_bucket.new.account c.new-charges.result
    (Some (record {
      content = content.Redeem c.args.asked;
      answer = answer.Bucket c.in-Ok-Some.number;
    }))
    (Some (record { code = c.args.code; voucher = c.args.redeemed.voucher })))
    c.in-Ok-Some.field-0-is c.in-Ok-Some.ensures.tariff c.in-Ok-Some.ensures.moment
    (made_tells c.args.loaded c.make_bucket.new.account c.new-charges.result
    (Some (record {
      content = content.Redeem c.args.asked;
      answer = answer.Bucket c.in-Ok-Some.number;
    })) _
    (Some (record { code = c.args.code; voucher = c.args.redeemed.voucher })) _
    c.new-charges.ensures.items refl
    (λ i. Some (record { code = may.coded i; voucher = c.args.redeemed.voucher }))) made

pub returns-in-Ok-Some : goal.returns-in-Ok-Some
returns-in-Ok-Some g c = committed_given (answer.Bucket c.in-Ok-Some.number) refl
    c.commit.ensures.commits (done g (goal.at.returns-in-Ok-Some g c).After-commit)

pub returns-in_ok-refuse-in-Ok-None : goal.returns-in_ok-refuse-in-Ok-None
returns-in_ok-refuse-in-Ok-None g c = record {
  served = λ clean b may list time is le.
      served-as b list (command.Redeem c.args.asked) c.args.moment
      (g.K.Keeper.seen c.args.keeper.now).tables (g.K.Keeper.seen c.abandon.new.self).tables
      c.in_ok-refuse-in-Ok-None.field-0 _ c.in_ok-refuse-in-Ok-None.ensures
      (redeem-told b list c.args.asked c.args.moment (g.K.Keeper.seen c.args.keeper.now).tables
      (g.K.Keeper.seen c.abandon.new.self).tables c.args.loaded time le is
      (record { load = may.first.load; account = c.moment_on-moment.ensures.kept })
      c.moment_on-moment.result may.first.fresh c.moment_on-moment.ensures.value c.args.redeemed
      may.redeems c.in-Ok-None.field-0 c.make_bucket.new.account c.in-Ok-None.ensures.makes
      c.in-Ok-None.field-0-is (ap (λ k. (g.K.Keeper.seen k).tables) c.abandon.ensures));
  refused = λ clean e. ap (λ k. (g.K.Keeper.seen k).tables) c.abandon.ensures;
  kept = search rules;
  left = search rules;
}
