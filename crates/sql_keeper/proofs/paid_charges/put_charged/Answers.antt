use Rattle.std.proofs.Common.{ap, ◌∙◌}
use Rattle.ledger.specs.declared.charge.ChargeRow.{ChargeRow}
use Rattle.sql_keeper.specs.Writes.{some_blocks}
use Rattle.sql_keeper.proofs.puts.NewCharges.{charged_free, charged_new, not_charged}
use Rattle.sql_keeper.proofs.paid_charges.put_charged.Goals as goal

pub returns-then-added-clause-over : goal.returns-then-added-clause-over
returns-then-added-clause-over g c =
    charged_new c.args.account.now c.args.charge.now c.in_ok-added.ensures.adds
    c.in_ok-added.ensures.same_reference c.charge.inside.number c.some_blocks-covered.result
    (ap (λ (x : ChargeRow). x.number) c.charge.view_is)
    (c.some_blocks-covered.ensures
    ∙ ap (λ (x : ChargeRow). some_blocks x.covered.0) c.charge.view_is)
    c.if-added.true c.put_new_blocks.ensures

pub returns-then-added-clause-free : goal.returns-then-added-clause-free
returns-then-added-clause-free g c =
    charged_free c.args.account.now c.args.charge.now _ _ _ c.in_ok-added.added
    c.put_new_blocks.result c.in_ok-added.ensures.adds c.if-added.true
    c.put_new_blocks.ensures.makes.survives

pub returns-clause-over : goal.returns-clause-over
returns-clause-over g c = record {
  same_reference = c.in_ok-added.ensures.same_reference;
  makes = not_charged _ _ _ _ c.in_ok-added.added _ c.in_ok-added.ensures.adds.makes;
}
