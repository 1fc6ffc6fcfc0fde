use Rattle.std.proofs.Common.{◌∙◌}
use Rattle.sql_rows.specs.Content.{has_counter, with_counter_row, with_rows}
use Rattle.sql_rows.proofs.writes.Replaces.{was_put}
use Rattle.sql_rows.proofs.counter_rows.put_counter.Goals as goal

pub returns : goal.returns
returns g c = record {
  same_reference = c.insert_counter.ensures.same_reference
      ∙ c.in_ok-replace_counter.ensures.same_reference;
  makes = was_put
      (has_counter c.args.account.now c.args.counter.now.group c.args.counter.now.cycle)
      (with_rows c.args.account.now (with_counter_row c.args.counter.now))
      _ c.if-branch.false _ _ _ c.insert_counter.result
      c.in_ok-replace_counter.ensures.replaces c.insert_counter.ensures.makes;
}
