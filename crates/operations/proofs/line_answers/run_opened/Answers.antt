use Rattle.std.proofs.Common.{◌≡◌, List, length, sym, subst, ◌∙◌}
use Rattle.commands.specs.declared.answer.Answer.{Answer}
use Rattle.charging.specs.Continued.{ForEachList}
use Rattle.operations.specs.LinesServed.{IsRunOpened}
use Rattle.operations.proofs.request_lines.Answered.{no_none, where_none, opening-stopped}
use Rattle.operations.proofs.request_lines.Answered.{requests-run}
use Rattle.operations.proofs.request_lines.HeldLines.{held-opening, held-requests}
use Rattle.operations.proofs.line_answers.run_opened.Goals as goal

pub returns-then-is_some-clause-runs : goal.returns-then-is_some-clause-runs
returns-then-is_some-clause-runs g c = λ clean.
    let b = c.args.shelf.now in
    let old = (g.K.Keeper.seen c.args.keeper.now).tables in
    let new = (g.K.Keeper.seen c.run_each-fault.new.keeper).tables in
    subst (λ (answers : List Answer). ForEachList b old (IsRunOpened b c.args.opening.items
    c.args.requests.items new answers c.run_each-fault.result.fault)) (sym c.new-answers.ensures.items)
    (opening-stopped b c.args.opening.items c.args.requests.items c.run_each-fault.result.fault
    c.run_each-fault.result.answers.items old new (sym c.is_some.ensures
    ∙ c.if-is_some.true) c.run_each-fault.ensures.beginning c.run_each-fault.ensures.stopped
    (c.run_each-fault.ensures.runs clean))

pub returns-clause-runs : goal.returns-clause-runs
returns-clause-runs g c = λ clean.
    let old = (g.K.Keeper.seen c.args.keeper.now).tables in
    let mid = (g.K.Keeper.seen c.run_each-fault.new.keeper).tables in
    let new = (g.K.Keeper.seen c.run_each.new.keeper).tables in
    let before = c.run_each-fault.result.answers.items in
    let all : length before ≡ length c.args.opening.items =
    where_none (length before ≡ length c.args.opening.items) c.run_each-fault.result.fault
    (sym c.is_some.ensures ∙ c.if-is_some.false) c.run_each-fault.ensures.whole in
    requests-run c.args.shelf.now c.args.opening.items c.args.requests.items c.run_each.result.fault
    before c.run_each.result.answers.items old mid new all
    (c.run_each-fault.ensures.runs (c.run_each.ensures.cleanness clean))
    (c.run_each.ensures.runs clean) c.run_each.ensures.whole c.run_each.ensures.stopped

pub returns-then-is_some-clause-whole : goal.returns-then-is_some-clause-whole
returns-then-is_some-clause-whole g c =
    no_none _ c.run_each-fault.result.fault (sym c.is_some.ensures ∙ c.if-is_some.true)

pub returns-then-is_some-clause-stands : goal.returns-then-is_some-clause-stands
returns-then-is_some-clause-stands g c = λ honest clean.
    no_none _ c.run_each-fault.result.fault (sym c.is_some.ensures ∙ c.if-is_some.true)

pub returns-clause-stands : goal.returns-clause-stands
returns-clause-stands g c = λ honest clean.
    c.run_each.ensures.stands honest
    (where_none (g.K.Keeper.seen c.run_each-fault.new.keeper).clean c.run_each-fault.result.fault
    (sym c.is_some.ensures ∙ c.if-is_some.false)
    (c.run_each-fault.ensures.stands (c.run_each.ensures.honesty honest) clean))

pub returns-then-is_some-clause-held : goal.returns-then-is_some-clause-held
returns-then-is_some-clause-held g c = λ honest clean t left.
    held-opening c.args.shelf.now (g.K.Keeper.seen c.args.keeper.now).tables t c.args.opening.items
    c.args.requests.items c.run_each-fault.result.answers.items
    (c.run_each-fault.ensures.held honest clean t left)

pub returns-clause-held : goal.returns-clause-held
returns-clause-held g c = λ honest clean t left.
    let before = c.run_each-fault.result.answers.items in
    let none = sym c.is_some.ensures ∙ c.if-is_some.false in
    let all : length before ≡ length c.args.opening.items =
    where_none (length before ≡ length c.args.opening.items) c.run_each-fault.result.fault none
    c.run_each-fault.ensures.whole in
    let asked : (g.K.Keeper.seen c.run_each-fault.new.keeper).clean =
    where_none (g.K.Keeper.seen c.run_each-fault.new.keeper).clean c.run_each-fault.result.fault none
    (c.run_each-fault.ensures.stands (c.run_each.ensures.honesty honest) clean) in
    held-requests c.args.shelf.now (g.K.Keeper.seen c.args.keeper.now).tables t
    (g.K.Keeper.seen c.run_each-fault.new.keeper).tables c.args.opening.items c.args.requests.items
    before c.run_each.result.answers.items all (c.run_each-fault.ensures.runs asked)
    (c.run_each.ensures.held honest asked t left)
