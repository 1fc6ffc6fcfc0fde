use Rattle.std.proofs.Common.{ap, sym, ◌∙◌, arith}
use Rattle.sql_tables.proofs.Columns.{row_is}
use Rattle.sql_rows.specs.Values.{cells_of, money_cells}
use Rattle.sql_rows.specs.Texts.{bucket_row}
use Rattle.sql_rows.proofs.bucket_rows.bucket_from.Goals as goal

pub returns : goal.returns
returns c =
    let cells = money_cells (bucket_row c.in_ok-columns.columns) in
    row_is c.args.row.now cells (omega (arith, c.has_columns.ensures)) c.in_ok-columns.ensures.cells
    ∙ ap (λ k. cells_of k cells) (sym c.in_ok-columns.ensures.kind)
