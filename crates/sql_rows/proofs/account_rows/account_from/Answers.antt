use Rattle.std.proofs.Common.{ap, arith}
use Rattle.sqlite_value.specs.Order.{Row, column}
use Rattle.sql_tables.proofs.Columns.{row_is}
use Rattle.sql_rows.proofs.rules.KeyRules.{both_weaker}
use Rattle.sql_rows.proofs.account_rows.account_from.Goals as goal

pub returns : goal.returns
returns c = both_weaker _ _ _ _ c.account_at.result
    (λ a is. row_is c.args.row.now _ (omega (arith, c.has_columns.ensures)) (is, tt))
    (λ e no' is a same ruled. no' is a ruled (ap (λ (w : Row). column w 0) same))
    c.account_at.ensures
