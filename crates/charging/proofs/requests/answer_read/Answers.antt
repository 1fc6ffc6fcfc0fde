use Rattle.std.proofs.Common.{ap, sym, ◌∙◌}
use Rattle.std.specs.Prelude.{is_some}
use Rattle.commands.specs.declared.command.Command.TheVariants.{Ccr}
use Rattle.charging.proofs.outcomes.Requested.{none_viewed, some_viewed, request-unknown, read-told}
use Rattle.charging.proofs.outcomes.PartsServed.{found_by, read_of}
use Rattle.charging.proofs.outcomes.Serving.{served-as}
use Rattle.charging.proofs.requests.answer_read.Goals as goal

pub returns-in-Some-2 : goal.returns-in-Some-2
returns-in-Some-2 g c = found_by (read_of c.in_ok-account.ensures) (λ clean list time is le.
    let answers = rw c.in-Some-2.is at c.in_ok-answer.ensures.answer in
    served-as c.args.shelf.now list (Ccr c.args.request.now) c.args.moment
    (g.K.Keeper.seen c.args.keeper.now).tables (g.K.Keeper.seen c.view.new.self).tables
    c.in_ok-new-in-Some-2.field-0 _ c.in_ok-new-in-Some-2.ensures
    (read-told c.args.shelf.now list c.args.request.now c.args.moment
    (g.K.Keeper.seen c.args.keeper.now).tables
    (g.K.Keeper.seen c.view.new.self).tables c.in-Some.account c.moment_on-now.result
    c.in-Some-2.answer time le is
    (some_viewed c.args.shelf.now c.args.moment
    ((g.K.Keeper.seen c.args.keeper.now).tables.rows c.args.request.now.account)
    c.in_ok-account.field-0 c.in-Some.account
    (c.in_ok-account.ensures.found clean) c.in-Some.is)
    c.moment_on-now.ensures.kept c.moment_on-now.ensures.value
    (sym c.in_ok-answer.ensures.read ∙ ap is_some c.in-Some-2.is) answers
    (c.in_ok-account.ensures.same clean)))

pub returns-in_default : goal.returns-in_default
returns-in_default g c = found_by (read_of c.in_ok-account.ensures) (λ clean list time is le.
    request-unknown c.args.shelf.now list c.args.request.now c.args.moment
    (g.K.Keeper.seen c.args.keeper.now).tables
    (g.K.Keeper.seen c.view.new.self).tables c.in_ok-tell_failed.field-0 time le is
    (none_viewed c.args.shelf.now c.args.moment
    ((g.K.Keeper.seen c.args.keeper.now).tables.rows c.args.request.now.account)
    c.in_ok-account.field-0 (c.in_ok-account.ensures.found clean) c.in_default.is)
    c.in_ok-tell_failed.ensures (c.in_ok-account.ensures.same clean))
