use Rattle.std.proofs.lemmas.Result.{err_from_is_err_and}
use Rattle.sql_rows.specs.Ruled.{IsRuledAccount}
use Rattle.sql_rows.specs.Values.{head_key}
use Rattle.sql_rows.proofs.rules.KeyRules.{several_refused}
use Rattle.sql_rows.proofs.account_rows.account_among.Goals as goal

pub returns-in_err-row : goal.returns-in_err-row
returns-in_err-row c =
    let p = err_from_is_err_and c.from_residual.result c.from_residual.ensures.1 in
    rw p.1 (λ e. several_refused head_key IsRuledAccount c.args.rows.now c.in_err-row.ensures)
