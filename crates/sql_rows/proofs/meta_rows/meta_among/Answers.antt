use Rattle.std.proofs.Common.{◌∙◌}
use Rattle.std.specs.Prelude.{option_map}
use Rattle.std.proofs.lemmas.Result.{err_from_is_err_and}
use Rattle.sql_tables.specs.Selects.{one_or_none}
use Rattle.sql_rows.proofs.rules.MetaRules.{none_refused, one_read, several_refused}
use Rattle.sql_rows.proofs.meta_rows.meta_among.Goals as goal

pub returns-in_err-row-clause-read : goal.returns-in_err-row-clause-read
returns-in_err-row-clause-read c =
    let p = err_from_is_err_and c.from_residual.result c.from_residual.ensures.1 in
    rw p.1 (λ e. several_refused c.args.version c.args.rows.now c.in_err-row.ensures)

pub returns-in-None-clause-read : goal.returns-in-None-clause-read
returns-in-None-clause-read c e =
    none_refused c.args.version c.args.rows.now
    (c.in_ok-row.ensures ∙ (λ i. one_or_none (option_map (λ r. r.now) (c.in-None.is i))))

pub returns-in-Some-clause-read : goal.returns-in-Some-clause-read
returns-in-Some-clause-read c =
    one_read c.args.version c.args.rows.now c.in-Some.row.now
    (c.in_ok-row.ensures ∙ (λ i. one_or_none (option_map (λ r. r.now) (c.in-Some.is i))))
    c.meta_at.result c.meta_at.ensures.read
