use Rattle.std.proofs.Common.{sym, ap, ◌∙◌, drop, ◌||◌, ◌+◌, arith}
use Rattle.std.proofs.lemmas.List.{at_drop_more}
use Rattle.decisions.specs.Services.{any_grants}
use Rattle.decisions.specs.Parts.{grants_new}
use Rattle.decisions.proofs.granting.any_grants.Goals as goal

pub returns-then-grants_new : goal.returns-then-grants_new
returns-then-grants_new c = λ ledger left h.
    sym (c.loop-service.invariant ledger left h
    ∙ at_drop_more (any_grants c.args.account.now.shelf c.args.moment ledger) c.args.services.now
    c.loop-service.service-index c.service-item.result (omega (arith, c.loop-service-test.true))
    ∙ ap (λ t. t || any_grants c.args.account.now.shelf c.args.moment ledger
    (drop (c.loop-service.service-index + 1) c.args.services.now))
    (ap (grants_new c.args.account.now.shelf c.args.moment ledger) (sym c.service-item.is)
    ∙ sym (c.grants_new.ensures ledger left h) ∙ c.if-grants_new.true))

pub loop-service-preserved : goal.loop-service-preserved
loop-service-preserved c = λ ledger left h.
    c.loop-service.invariant ledger left h
    ∙ at_drop_more (any_grants c.args.account.now.shelf c.args.moment ledger) c.args.services.now
    c.loop-service.service-index c.service-item.result (omega (arith, c.loop-service-test.true))
    ∙ ap (λ t. t || any_grants c.args.account.now.shelf c.args.moment ledger
    (drop (c.loop-service.service-index + 1) c.args.services.now))
    (ap (grants_new c.args.account.now.shelf c.args.moment ledger) (sym c.service-item.is)
    ∙ sym (c.grants_new.ensures ledger left h) ∙ c.if-grants_new.false)
