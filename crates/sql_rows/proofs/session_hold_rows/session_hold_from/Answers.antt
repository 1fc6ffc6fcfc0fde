use Rattle.std.proofs.Common.{arith}
use Rattle.sql_tables.proofs.Columns.{row_is}
use Rattle.sql_rows.proofs.session_hold_rows.session_hold_from.Goals as goal

pub returns : goal.returns
returns c = row_is c.args.row.now _ (omega (arith, c.has_columns.ensures)) (
  c.in_ok-is_of_part.ensures,
  (
    c.in_ok-session.ensures,
    (
      c.in_ok-group.ensures,
      (
        c.in_ok-bucket.ensures,
        (c.in_ok-amount.ensures, (c.in_ok-null_at.ensures, (c.in_ok-null_at-2.ensures, tt))),
      ),
    ),
  ),
)
