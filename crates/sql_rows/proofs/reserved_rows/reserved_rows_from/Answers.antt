use Rattle.std.proofs.Common.{sym, ◌∙◌, arith}
use Rattle.std.proofs.lemmas.Result.{err_from_is_err_and}
use Rattle.sql_rows.specs.Lists.{reserved_cells}
use Rattle.sql_rows.specs.Ruled.{IsRuledReserved}
use Rattle.sql_rows.proofs.rules.RowRules.{row_refused}
use Rattle.sql_rows.proofs.reserved_rows.reserved_rows_from.Goals as goal

pub returns-in_err-one : goal.returns-in_err-one
returns-in_err-one c =
    let p = err_from_is_err_and c.from_residual.result c.from_residual.ensures.1 in
    rw p.1 (λ e. row_refused reserved_cells IsRuledReserved c.args.rows.now c.rows.row-index
    c.row-item.result (omega arith)
    c.row-item.is (c.in_err-one.ensures (sym p.2 ∙ e)))
