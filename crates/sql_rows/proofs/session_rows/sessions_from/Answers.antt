use lib.Seq.{take_all}
use Rattle.std.proofs.Common.{◌≡◌, ◌∷◌, map, rules, sym, ◌∙◌, arith}
use Rattle.std.proofs.lemmas.Result.{err_from_is_err_and}
use Rattle.sql_rows.specs.Ruled.{IsRuledSession}
use Rattle.sql_rows.specs.Values.{session_cells}
use Rattle.sql_rows.proofs.rules.ListRules.{unordered}
use Rattle.sql_rows.proofs.rules.RowRules.{row_refused}
use Rattle.sqlite_value.specs.declared.value.Value.TheVariants.{Null}
use Rattle.reserving.specs.Sessions.{session_before}
use Rattle.sql_rows.specs.Lists.{Ascends}
use Rattle.sql_rows.specs.Values.{session_in_row}
use Rattle.sql_rows.proofs.puts.PutSession.{session_told}
use Rattle.sql_rows.proofs.session_rows.sessions_from.Goals as goal

pub returns-in_err-session-clause-refused : goal.returns-in_err-session-clause-refused
returns-in_err-session-clause-refused c =
    let p = err_from_is_err_and c.from_residual.result c.from_residual.ensures.1 in
    rw p.1 (λ e xs is up. row_refused session_cells IsRuledSession c.args.rows.now
    c.rows.row-index c.row-item.result (omega arith)
    c.row-item.is (c.in_err-session.ensures (sym p.2 ∙ e)) xs is)

pub returns-then-not-do_ascend-clause-refused : goal.returns-then-not-do_ascend-clause-refused
returns-then-not-do_ascend-clause-refused c e xs is up =
    let own : map session_cells c.rows.sessions.items ≡ c.args.rows.now =
    c.rows.invariant ∙ take_all c.rows.row-index c.args.rows.now (omega arith) in
    let falls : Ascends session_before c.rows.sessions.items → ⊥ = search rules in
    absurd (unordered session_cells (λ w. session_in_row (Null ∷ w)) (session_told Null) session_before
    c.rows.sessions.items c.args.rows.now own falls xs is up)
