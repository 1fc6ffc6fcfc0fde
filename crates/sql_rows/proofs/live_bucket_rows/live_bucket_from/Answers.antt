use Rattle.std.proofs.Common.{[], ◌∷◌, ◌++◌, ap, sym, ◌∙◌, arith}
use Rattle.sql_tables.proofs.Columns.{row_is}
use Rattle.sql_rows.specs.Values.{cells_of, flag_number, money_cells, nat}
use Rattle.sql_rows.specs.Texts.{bucket_row}
use Rattle.sql_rows.proofs.live_bucket_rows.live_bucket_from.Goals as goal

pub returns : goal.returns
returns c =
    let cells = c.in_ok-columns.ensures.cells in
    let flag = nat (flag_number c.in_ok-counts_blocks.counts_blocks) in
    let values = money_cells (bucket_row c.in_ok-columns.columns) in
    row_is c.args.row.now (values ++ flag ∷ []) (omega (arith, c.has_columns.ensures)) (
      cells.0,
      (
        cells.1.0,
        (
          cells.1.1.0,
          (
            cells.1.1.1.0,
            (
              cells.1.1.1.1.0,
              (
                cells.1.1.1.1.1.0,
                (
                  cells.1.1.1.1.1.1.0,
                  (
                    cells.1.1.1.1.1.1.1.0,
                    (cells.1.1.1.1.1.1.1.1.0, (c.in_ok-counts_blocks.ensures, tt)),
                  ),
                ),
              ),
            ),
          ),
        ),
      ),
    )
    ∙ ap (λ k. cells_of k values ++ flag ∷ []) (sym c.in_ok-columns.ensures.kind)
