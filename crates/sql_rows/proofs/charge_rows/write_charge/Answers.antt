use Rattle.std.proofs.Common.{rules, refl, ◌∙◌, ap}
use Rattle.sqlite_value.specs.declared.value.Value.TheVariants.{Text}
use Rattle.ledger.specs.declared.charge.ChargeRow.{ChargeRow}
use Rattle.sql_rows.specs.Values.{nat, charge_values, plain_charge}
use Rattle.sql_rows.proofs.puts.PutCharge.{bound_charge}
use Rattle.sql_rows.proofs.writes.Writes.{runs_with}
use Rattle.sql_rows.proofs.charge_rows.write_charge.Goals as goal

pub returns : goal.returns
returns g c = record {
  same_reference = search rules;
  makes = runs_with c.args.sql.now _ (charge_values c.args.account.now c.args.charge.now)
      (bound_charge c.args.account.now (plain_charge c.args.charge.now) refl _ _ _ _ _ _ _ _ _
      (c.text-of_account.ensures ∙ ap Text c.as_str.ensures.value)
      (c.whole-number.ensures ∙ ap (λ (x : ChargeRow). nat x.number) c.charge.view_is)
      (c.large-moment.ensures ∙ ap nat c.seconds.ensures.value
      ∙ ap (λ (x : ChargeRow). nat x.moment) c.charge.view_is)
      (c.text-session.ensures ∙ ap Text c.as_str-2.ensures.value
      ∙ ap (λ (x : ChargeRow). Text x.session) c.charge.view_is)
      (c.whole-group.ensures ∙ ap (λ (x : ChargeRow). nat x.group) c.charge.view_is)
      (c.in_ok-blocks.ensures ∙ ap (λ (x : ChargeRow). nat x.blocks.0) c.charge.view_is)
      (c.in_ok-rated.ensures ∙ ap (λ (x : ChargeRow). nat x.rated.0) c.charge.view_is)
      (c.in_ok-collected.ensures ∙ ap (λ (x : ChargeRow). nat x.collected.0) c.charge.view_is)
      (c.in_ok-uncollected.ensures ∙ ap (λ (x : ChargeRow). nat x.uncollected.0) c.charge.view_is))
      _ _ c.write.result c.write.ensures.runs;
}
