use Rattle.std.proofs.Common.{subst, Option}
use Rattle.commands.specs.declared.command.Command.TheVariants as command
use Rattle.charging.specs.States.{TellsStateAt}
use Rattle.charging.specs.declared.balances.AccountState.{AccountState}
use Rattle.charging.proofs.outcomes.PartsServed.{part_read, told_after}
use Rattle.charging.proofs.outcomes.Serving.{served-as}
use Rattle.charging.proofs.outcomes.Stated.{balance-unknown, balance-told}
use Rattle.charging.proofs.balances.tell_balance.Goals as goal

pub returns-in_default : goal.returns-in_default
returns-in_default g c = told_after (part_read c.in_ok-state.ensures) (λ clean list time is le.
    served-as c.args.shelf.now list (command.Balance c.args.number) c.args.moment
    (g.K.Keeper.seen c.args.keeper.now).tables (g.K.Keeper.seen c.state_at.new.keeper).tables
    c.in_ok-refuse.field-0 _ c.in_ok-refuse.ensures
    (balance-unknown c.args.shelf.now list c.args.number c.args.moment
    (g.K.Keeper.seen c.args.keeper.now).tables (g.K.Keeper.seen c.state_at.new.keeper).tables time
    le is
    (subst (λ (o : Option AccountState). TellsStateAt c.args.shelf.now c.args.number c.args.moment
    (g.K.Keeper.seen c.args.keeper.now).tables o) c.in_default.is (c.in_ok-state.ensures.found
    clean) list time is le) (c.in_ok-state.ensures.same clean)))

pub returns : goal.returns
returns g c = told_after (part_read c.in_ok-state.ensures) (λ clean list time is le.
    served-as c.args.shelf.now list (command.Balance c.args.number) c.args.moment
    (g.K.Keeper.seen c.args.keeper.now).tables (g.K.Keeper.seen c.state_at.new.keeper).tables
    c.in_ok-new.field-0 _ c.in_ok-new.ensures
    (balance-told c.args.shelf.now list c.args.number c.args.moment
    (g.K.Keeper.seen c.args.keeper.now).tables (g.K.Keeper.seen c.state_at.new.keeper).tables
    c.in-Some.state c.in_ok-balance.balance time le is
    (subst (λ (o : Option AccountState). TellsStateAt c.args.shelf.now c.args.number c.args.moment
    (g.K.Keeper.seen c.args.keeper.now).tables o) c.in-Some.is (c.in_ok-state.ensures.found clean)
    list time is le)
    c.in_ok-balance.ensures (c.in_ok-state.ensures.same clean)))
