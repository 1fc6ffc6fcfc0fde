use Rattle.std.proofs.Common.{sym, ◌∙◌, arith}
use Rattle.std.proofs.lemmas.Result.{err_from_is_err_and}
use Rattle.sql_rows.specs.Lists.{book_at_cells}
use Rattle.sql_rows.specs.Ruled.{IsRuledBook}
use Rattle.sql_rows.proofs.rules.RowRules.{row_refused}
use Rattle.sql_rows.proofs.book_rows.books_from.Goals as goal

pub returns-in_err-book : goal.returns-in_err-book
returns-in_err-book c =
    let p = err_from_is_err_and c.from_residual.result c.from_residual.ensures.1 in
    rw p.1 (λ e. row_refused book_at_cells IsRuledBook c.args.rows.now c.rows.row-index
    c.row-item.result (omega arith)
    c.row-item.is (c.in_err-book.ensures (sym p.2 ∙ e)))
