use Rattle.std.proofs.Common.{arith}
use Rattle.sql_tables.proofs.Columns.{row_is}
use Rattle.sql_rows.proofs.meta_rows.meta_from.Goals as goal

pub returns-clause-read : goal.returns-clause-read
returns-clause-read c kept = row_is c.args.row.now _ (omega (arith, c.has_columns.ensures))
    (kept, (c.in_ok-book.ensures, (c.in_ok-last.ensures, tt)))
