use Rattle.std.proofs.Common.{◌∙◌, ap, sym, rules}
use Rattle.commands.specs.declared.command.Command.TheVariants as command
use Rattle.charging.specs.Stepping.{is_unaccepted}
use Rattle.charging.proofs.outcomes.Serving.{left_as, served-as}
use Rattle.charging.proofs.outcomes.Operated.{sweep-served, sweep-writes}
use Rattle.charging.proofs.outcomes.Refused.{not_told}
use Rattle.charging.proofs.operators.sweep.Goals as goal

pub returns : goal.returns
returns g c = record {
  served = λ clean list time is le.
      served-as c.args.shelf.now list command.Sweep c.args.moment
      (g.K.Keeper.seen c.args.keeper.now).tables (g.K.Keeper.seen c.sweep.new.self).tables
      c.swept.result _ c.swept.ensures
      (sweep-served c.args.shelf.now list c.args.moment c.in_ok-count.count
      (g.K.Keeper.seen c.args.keeper.now).tables (g.K.Keeper.seen c.sweep.new.self).tables
      time is le (c.in_ok-count.ensures.count clean) (c.in_ok-count.ensures.done clean));
  refused = λ clean e. not_told _ (sym (ap is_unaccepted c.swept.ensures) ∙ e);
  kept = search rules;
  left = λ honest t l. left_as (c.in_ok-count.ensures.kept.left honest t l) (λ before. before)
      (sweep-writes c.args.shelf.now c.args.moment (g.K.Keeper.seen c.args.keeper.now).tables t);
}

pub returns-in_err-count : goal.returns-in_err-count
returns-in_err-count g c = record {
  served = search rules;
  refused = search rules;
  kept = search rules;
  left = λ honest t l. left_as (c.in_err-count.ensures.kept.left honest t l) (λ before. before)
      (sweep-writes c.args.shelf.now c.args.moment (g.K.Keeper.seen c.args.keeper.now).tables t);
}
