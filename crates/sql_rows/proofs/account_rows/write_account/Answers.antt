use Rattle.std.proofs.Common.{rules, ◌∙◌, ap}
use Rattle.sqlite_value.specs.declared.value.Value.TheVariants.{Text}
use Rattle.sql_rows.specs.Values.{nat, head_values}
use Rattle.sql_rows.proofs.puts.PutAccount.{bound_account}
use Rattle.sql_rows.proofs.writes.Writes.{runs_with}
use Rattle.sql_rows.proofs.account_rows.write_account.Goals as goal

pub returns : goal.returns
returns g c = record {
  same_reference = search rules;
  makes = runs_with c.args.sql.now _ (head_values c.args.account.now c.args.head.now)
      (bound_account c.args.account.now c.args.head.now _ _ _ _ _
      (c.text-number.ensures ∙ ap Text c.as_str.ensures.value)
      c.flag-barred.ensures
      (c.large-as_of.ensures ∙ ap nat c.seconds.ensures.value)
      c.in_ok-next_bucket.ensures
      c.in_ok-next_charge.ensures)
      _ _ c.write.result c.write.ensures.runs;
}
