use Rattle.std.proofs.lemmas.Result.{err_from_is_err_and}
use Rattle.sql_rows.specs.Ruled.{IsRuledCounter}
use Rattle.sql_rows.specs.Values.{counter_cells}
use Rattle.sql_rows.proofs.rules.KeyRules.{several_refused}
use Rattle.sql_rows.proofs.counter_rows.counter_among.Goals as goal

pub returns-in_err-row : goal.returns-in_err-row
returns-in_err-row c =
    let p = err_from_is_err_and c.from_residual.result c.from_residual.ensures.1 in
    rw p.1 (λ e. several_refused counter_cells IsRuledCounter c.args.rows.now c.in_err-row.ensures)
