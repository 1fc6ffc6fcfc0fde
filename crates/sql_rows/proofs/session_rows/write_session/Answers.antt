use Rattle.std.proofs.Common.{rules, ◌∙◌, ap}
use Rattle.sqlite_value.specs.declared.value.Value.TheVariants.{Text}
use Rattle.sql_rows.specs.Values.{nat, session_values}
use Rattle.sql_rows.proofs.puts.PutSession.{bound_session}
use Rattle.sql_rows.proofs.writes.Writes.{runs_with}
use Rattle.sql_rows.proofs.session_rows.write_session.Goals as goal

pub returns : goal.returns
returns g c = record {
  same_reference = search rules;
  makes = runs_with c.args.sql.now _ (session_values c.args.account.now c.args.session.now)
      (bound_session c.args.account.now c.args.session.now _ _ _ _ _
      (c.text-of_account.ensures ∙ ap Text c.as_str.ensures.value)
      (c.text-name.ensures ∙ ap Text c.as_str-2.ensures.value)
      c.whole-last_number.ensures
      (c.large-touched.ensures ∙ ap nat c.seconds.ensures.value)
      (c.whole-state.ensures ∙ ap nat c.state_number.ensures))
      _ _ c.write.result c.write.ensures.runs;
}
