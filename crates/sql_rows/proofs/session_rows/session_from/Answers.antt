use Rattle.std.proofs.Common.{arith}
use Rattle.sql_tables.proofs.Columns.{row_is}
use Rattle.sql_rows.proofs.session_rows.session_from.Goals as goal

pub returns : goal.returns
returns c = row_is c.args.row.now _ (omega (arith, c.has_columns.ensures)) (
  c.in_ok-id.ensures,
  (c.in_ok-last_number.ensures, (c.in_ok-touched.ensures, (c.in_ok-state.ensures, tt))),
)
