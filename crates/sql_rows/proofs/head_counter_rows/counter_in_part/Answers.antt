use Rattle.std.proofs.Common.{arith}
use Rattle.sql_tables.proofs.Columns.{row_is}
use Rattle.sql_rows.proofs.head_counter_rows.counter_in_part.Goals as goal

pub returns : goal.returns
returns c = row_is c.args.row.now _ (omega (arith, c.has_columns.ensures)) (
  c.in_ok-is_of_part.ensures,
  (
    c.in_ok-group.ensures,
    (
      c.in_ok-cycle.ensures,
      (c.in_ok-blocks.ensures, (c.in_ok-has_no_more.ensures, tt)),
    ),
  ),
)
