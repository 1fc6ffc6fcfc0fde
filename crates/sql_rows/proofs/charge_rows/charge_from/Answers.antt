use Rattle.std.proofs.Common.{arith}
use Rattle.sql_tables.proofs.Columns.{row_is}
use Rattle.sql_rows.proofs.charge_rows.charge_from.Goals as goal

pub returns : goal.returns
returns c = row_is c.args.row.now _ (omega (arith, c.has_columns.ensures)) (
  c.in_ok-number.ensures,
  (
    c.in_ok-moment.ensures,
    (
      c.in_ok-session.ensures,
      (
        c.in_ok-group.ensures,
        (
          c.in_ok-blocks.ensures,
          (
            c.in_ok-rated.ensures,
            (c.in_ok-collected.ensures, (c.in_ok-uncollected.ensures, tt)),
          ),
        ),
      ),
    ),
  ),
)
