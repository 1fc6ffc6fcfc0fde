use Rattle.std.proofs.lemmas.Result.{err_from_is_err_and}
use Rattle.sql_rows.specs.Ruled.{IsRuledVoucher}
use Rattle.sql_rows.specs.Values.{voucher_cells}
use Rattle.sql_rows.proofs.rules.KeyRules.{several_refused}
use Rattle.sql_rows.proofs.voucher_rows.voucher_among.Goals as goal

pub returns-in_err-row : goal.returns-in_err-row
returns-in_err-row c =
    let p = err_from_is_err_and c.from_residual.result c.from_residual.ensures.1 in
    rw p.1 (λ e. several_refused voucher_cells IsRuledVoucher c.args.rows.now c.in_err-row.ensures)
