use Rattle.std.proofs.Common.{rules, ◌∙◌, ap}
use Rattle.std.specs.Option.{option_copied}
use Rattle.sql_rows.specs.Values.{nat}
use Rattle.sql_rows.proofs.puts.PutVoucher.{makes_voucher, bound_voucher}
use Rattle.sql_rows.proofs.voucher_rows.put_voucher.Goals as goal

pub returns : goal.returns
returns g c = record {
  same_reference = search rules;
  makes = makes_voucher c.args.code.now (record {
    amount = c.args.amount;
    days = c.args.days;
    scope = c.args.scope;
    account = option_copied c.args.account;
  }) _ (bound_voucher c.args.code.now (record {
    amount = c.args.amount;
    days = c.args.days;
    scope = c.args.scope;
    account = option_copied c.args.account;
  }) _ _ _ _ _
      c.text-of_code.ensures
      (c.large-micros.ensures ∙ ap nat c.micros.ensures.value)
      c.optional-of_days.ensures
      c.optional-of_scope.ensures
      c.redeemer_or_null-redeemer.ensures)
      _ _ c.run.result c.requires.tables c.run.ensures.makes;
}
