use Rattle.std.proofs.Common.{arith}
use Rattle.sql_tables.proofs.Columns.{row_is}
use Rattle.sql_rows.proofs.reserved_rows.reserved_from.Goals as goal

pub returns : goal.returns
returns c = row_is c.args.row.now _ (omega (arith, c.has_columns.ensures)) (
  c.in_ok-account.ensures,
  (c.in_ok-session.ensures, (c.in_ok-group.ensures, (c.in_ok-one_at.ensures, tt))),
)
