use Rattle.std.proofs.Common.{rules, ◌∙◌, ap}
use Rattle.sqlite_value.specs.declared.value.Value.TheVariants.{Text}
use Rattle.sql_rows.specs.Values.{counter_values}
use Rattle.sql_rows.proofs.puts.PutCounter.{bound_counter}
use Rattle.sql_rows.proofs.writes.Writes.{runs_with}
use Rattle.sql_rows.proofs.counter_rows.write_counter.Goals as goal

pub returns : goal.returns
returns g c = record {
  same_reference = search rules;
  makes = runs_with c.args.sql.now _ (counter_values c.args.account.now c.args.counter.now)
      (bound_counter c.args.account.now c.args.counter.now _ _ _ _
      (c.text-of_account.ensures ∙ ap Text c.as_str.ensures.value)
      c.whole-group.ensures
      c.whole-cycle.ensures
      c.in_ok-blocks.ensures)
      _ _ c.write.result c.write.ensures.runs;
}
