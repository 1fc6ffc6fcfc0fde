use Rattle.std.proofs.Common.{rules, ◌∙◌, ap}
use Rattle.sqlite_value.specs.declared.value.Value.TheVariants.{Text}
use Rattle.sql_rows.specs.declared.covered_rows.CoveredColumns.{CoveredColumns}
use Rattle.sql_rows.proofs.puts.PutCovered.{makes_covered, bound_covered}
use Rattle.sql_rows.proofs.covered_rows.put_covered.Goals as goal

pub returns : goal.returns
returns g c = record {
  same_reference = search rules;
  makes = let x : CoveredColumns = record { number = c.args.charge; blocks = c.args.covered.0 } in
      makes_covered c.args.account.now x _ (bound_covered c.args.account.now x _ _ _
      (c.text-of_account.ensures ∙ ap Text c.as_str.ensures.value) c.whole-number.ensures
      c.in_ok-blocks.ensures)
      _ _ c.run.result c.requires.tables c.run.ensures.makes;
}
