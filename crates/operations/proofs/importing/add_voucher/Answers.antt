use Rattle.std.proofs.Common.{subst}
use Rattle.commands.specs.declared.command.Command.TheVariants.{AddVoucher}
use Rattle.keepers.specs.Tables.{Tables}
use Rattle.charging.specs.Served.{Writes}
use Rattle.charging.proofs.outcomes.Serving.{left_as}
use Rattle.operations.proofs.ImportLemmas.{added}
use Rattle.operations.proofs.importing.add_voucher.Goals as goal

pub returns-clause-added : goal.returns-clause-added
returns-clause-added g c = λ clean.
    let before = c.in_ok-step.ensures.kept.cleanness clean in
    added c.args.shelf.now c.args.moment c.args.row (g.K.Keeper.seen c.args.keeper.now).tables
    (g.K.Keeper.seen c.find_voucher.new.self).tables (g.K.Keeper.seen c.step.new.keeper).tables
    c.in_ok-found.found c.add-addition.result (c.in_ok-found.ensures.found before)
    c.add-addition.ensures.value (c.in_ok-found.ensures.same before)
    (λ list time tables.
    (c.in_ok-step.field-0, c.in_ok-step.ensures.served clean list time tables))

-- what its command writes is written of the tables before the call
pub returns-clause-left : goal.returns-clause-left
returns-clause-left g c = λ honest t l.
    left_as (c.in_ok-step.ensures.left honest t l)
    (c.in_ok-found.ensures.left (c.in_ok-step.ensures.kept.honesty honest) t)
    (λ w. (
      c.in_ok-found.ensures.cleanness w.0,
      subst (λ (x : Tables). Writes c.args.shelf.now (AddVoucher c.args.row) c.args.moment x t)
          (c.in_ok-found.ensures.same w.0) w.1,
    ))

pub returns-in_err-step-clause-left : goal.returns-in_err-step-clause-left
returns-in_err-step-clause-left g c = λ honest t l.
    left_as (c.in_err-step.ensures.left honest t l)
    (c.in_ok-found.ensures.left (c.in_err-step.ensures.kept.honesty honest) t)
    (λ w. (
      c.in_ok-found.ensures.cleanness w.0,
      subst (λ (x : Tables). Writes c.args.shelf.now (AddVoucher c.args.row) c.args.moment x t)
          (c.in_ok-found.ensures.same w.0) w.1,
    ))
