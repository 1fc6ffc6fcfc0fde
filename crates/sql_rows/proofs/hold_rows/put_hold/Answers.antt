use Rattle.std.proofs.Common.{rules, ◌∙◌, ap}
use Rattle.sqlite_value.specs.declared.value.Value.TheVariants.{Text}
use Rattle.sql_rows.proofs.puts.PutHold.{makes_hold, bound_hold}
use Rattle.sql_rows.proofs.hold_rows.put_hold.Goals as goal

pub returns : goal.returns
returns g c = record {
  same_reference = search rules;
  makes = makes_hold c.args.account.now c.args.session.now c.args.group c.args.hold.now.bucket
      c.args.hold.now.amount _ (bound_hold c.args.account.now c.args.session.now c.args.group
      c.args.hold.now.bucket c.args.hold.now.amount _ _ _ _ _
      (c.text-of_account.ensures ∙ ap Text c.as_str.ensures.value)
      (c.text-of_session.ensures ∙ ap Text c.as_str-2.ensures.value)
      c.whole-of_group.ensures
      c.whole-bucket.ensures
      c.in_ok-amount.ensures)
      _ _ c.run.result c.requires.tables c.run.ensures.makes;
}
