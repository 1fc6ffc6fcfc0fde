use Rattle.std.proofs.Common.{sym, ◌∙◌}
use Rattle.std.proofs.lemmas.Result.{err_from_is_err_and}
use Rattle.sql_rows.specs.Texts.{meta_of}
use Rattle.sql_rows.proofs.rules.MetaRules.{other_version, own_version, same_row}
use Rattle.sql_rows.proofs.meta_rows.meta_at.Goals as goal

pub returns-then-not-branch-clause-read : goal.returns-then-not-branch-clause-read
returns-then-not-branch-clause-read c =
    other_version c.args.row.now c.args.version c.in_ok-is_number_at.field-0
    c.in_ok-is_number_at.ensures.1 c.if-not-branch.true

pub returns-in_err-meta_from-clause-read : goal.returns-in_err-meta_from-clause-read
returns-in_err-meta_from-clause-read c =
    let p = err_from_is_err_and c.from_residual-in_err-meta_from.result
    c.from_residual-in_err-meta_from.ensures.1 in
    rw p.1 (λ e kept is. (
      own_version c.args.row.now c.args.version
          (c.in_ok-is_number_at.ensures.0 c.if-not-branch.false) kept is,
      c.in_err-meta_from.ensures.read (sym p.2 ∙ e) kept is,
    ))

pub returns-clause-read : goal.returns-clause-read
returns-clause-read c kept =
    same_row c.args.row.now (meta_of c.in_ok-meta_from.field-0) kept
    (c.in_ok-meta_from.ensures.read (c.in_ok-is_number_at.ensures.0 c.if-not-branch.false))
