use Rattle.std.proofs.Common.{Err, ap, subst, sym, ◌∙◌}
use Rattle.std.proofs.lemmas.Result.{err_from_is_err_and}
use Rattle.sqlite.specs.Held.{state}
use Rattle.sql_tables.specs.Schema.{latest}
use Rattle.sql_rules.proofs.Steps.{by_kept}
use Rattle.sql_keeper.specs.RuledOpening.{FindsRuled}
use Rattle.sql_keeper.proofs.openings.Causes.{latest_known}
use Rattle.sql_keeper.proofs.openings.RuledOpening.{rows_told, rows_unasked, rows_untold}
use Rattle.sql_keeper.proofs.openings.RuledOpening.{ruled_schema}
use Rattle.sql_keeper.proofs.ruled_opening.ruled_books_in.Goals as goal

pub test_rows-requires-clause-known : goal.test_rows-requires-clause-known
test_rows-requires-clause-known g c = latest_known

pub test_rows-requires-clause-ours : goal.test_rows-requires-clause-ours
test_rows-requires-clause-ours g c =
    ruled_schema (state g.S.Store c.args.conn.now) (state g.S.Store c.books_in.new.conn)
    c.in_ok-read.read c.in_ok-read.ensures.finds

pub returns-in_err-read-clause-finds : goal.returns-in_err-read-clause-finds
returns-in_err-read-clause-finds g c =
    let p = err_from_is_err_and c.from_residual.result c.from_residual.ensures.1 in
    subst (FindsRuled (state g.S.Store c.args.conn.now) (state g.S.Store c.books_in.new.conn))
    (sym (p.1 ∙ ap Err p.2)) (rows_unasked _ _ _ c.in_err-read.ensures.finds)

pub returns-in_err-test_rows-clause-finds : goal.returns-in_err-test_rows-clause-finds
returns-in_err-test_rows-clause-finds g c =
    let p = err_from_is_err_and c.from_residual-in_err-test_rows.result
    c.from_residual-in_err-test_rows.ensures.1 in
    subst (FindsRuled (state g.S.Store c.args.conn.now) (state g.S.Store c.test_rows.new.conn))
    (sym (p.1 ∙ ap Err p.2))
    (rows_untold _ _ _ c.in_ok-read.read _ c.in_ok-read.ensures.finds
    (by_kept _ _ latest _ _ _ (λ clean. (c.in_ok-read.ensures.finds.found clean).0.last)
    c.in_err-test_rows.ensures.tells))

pub returns-clause-finds : goal.returns-clause-finds
returns-clause-finds g c =
    rows_told _ _ _ c.in_ok-read.read _ c.in_ok-read.ensures.finds
    (by_kept _ _ latest _ _ _ (λ clean. (c.in_ok-read.ensures.finds.found clean).0.last)
    c.in_ok-test_rows.ensures.tells)
