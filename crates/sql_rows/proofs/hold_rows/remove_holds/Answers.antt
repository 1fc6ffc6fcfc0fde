use Rattle.std.proofs.Common.{rules, ◌∙◌, ap}
use Rattle.sqlite_value.specs.declared.value.Value.TheVariants.{Text}
use Rattle.sql_rows.proofs.removals.RemoveHolds.{makes_none, bound_group}
use Rattle.sql_rows.proofs.hold_rows.remove_holds.Goals as goal

pub returns : goal.returns
returns g c = record {
  same_reference = search rules;
  makes = makes_none c.args.account.now c.args.session.now c.args.group _
      (bound_group c.args.account.now c.args.session.now c.args.group _ _ _
      (c.text-of_account.ensures ∙ ap Text c.as_str.ensures.value)
      (c.text-of_session.ensures ∙ ap Text c.as_str-2.ensures.value)
      c.whole-of_group.ensures)
      _ _ c.run.result c.requires.tables c.run.ensures.makes;
}
