use Rattle.std.proofs.Common.{rules, ◌∙◌, ap}
use Rattle.sqlite_value.specs.declared.value.Value.TheVariants.{Text}
use Rattle.sql_rows.proofs.removals.RemoveAllowance.{makes_none, bound_key}
use Rattle.sql_rows.proofs.allowance_rows.remove_allowance.Goals as goal

pub returns : goal.returns
returns g c = record {
  same_reference = search rules;
  makes = makes_none c.args.account.now c.args.bucket _ (bound_key c.args.account.now c.args.bucket
      _ _ (c.text-of_account.ensures ∙ ap Text c.as_str.ensures.value) c.whole-number.ensures)
      _ _ c.run.result c.requires.tables c.run.ensures.makes;
}
