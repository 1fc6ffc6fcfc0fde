use Rattle.std.proofs.Common.{sym, ◌∙◌}
use Rattle.std.proofs.lemmas.Result.{err_from_is_err_and}
use Rattle.sql_rows.proofs.names.NamedTexts.{session_utf8}
use Rattle.sql_rows.proofs.decoding.session_at.Goals as goal

pub returns-in_err-name : goal.returns-in_err-name
returns-in_err-name c =
    let p = err_from_is_err_and c.from_residual.result c.from_residual.ensures.1 in
    rw p.1 (λ e name is there.
    c.in_err-name.ensures (sym p.2 ∙ e) name (session_utf8 name is) there)
