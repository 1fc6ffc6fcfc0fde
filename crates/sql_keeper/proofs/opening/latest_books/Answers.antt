use Rattle.std.proofs.Common.{Err, ap, subst, sym, ◌∙◌}
use Rattle.std.proofs.lemmas.Result.{err_from_is_err_and}
use Rattle.sqlite.specs.Held.{state}
use Rattle.sql_keeper.specs.Finds.{ReadsBooks}
use Rattle.sql_keeper.proofs.openings.Opens.{reads_books, reads_no_books, reads_no_meta}
use Rattle.sql_keeper.proofs.opening.latest_books.Goals as goal

pub returns-in_err-meta-clause-reads : goal.returns-in_err-meta-clause-reads
returns-in_err-meta-clause-reads g c =
    let p = err_from_is_err_and c.from_residual.result c.from_residual.ensures.1 in
    subst (ReadsBooks (state g.S.Store c.args.conn.now) (state g.S.Store c.find_meta.new.conn))
    (sym (p.1 ∙ ap Err p.2))
    (reads_no_meta _ _ _ _ c.in_err-meta.ensures.reads c.in_err-meta.ensures.finds)

pub returns-in_err-rows-clause-reads : goal.returns-in_err-rows-clause-reads
returns-in_err-rows-clause-reads g c =
    let p = err_from_is_err_and c.from_residual-in_err-rows.result
    c.from_residual-in_err-rows.ensures.1 in
    subst (ReadsBooks (state g.S.Store c.args.conn.now) (state g.S.Store c.find_books.new.conn))
    (sym (p.1 ∙ ap Err p.2))
    (reads_no_books _ _ c.in_ok-meta.meta c.in_ok-meta.ensures.reads _ _ _
    c.in_err-rows.ensures.reads c.in_err-rows.ensures.told c.in_err-rows.ensures.ours
    c.in_ok-meta.ensures.finds.own c.in_err-rows.ensures.rules)

pub returns-clause-reads : goal.returns-clause-reads
returns-clause-reads g c =
    reads_books _ _ c.in_ok-meta.meta c.in_ok-meta.ensures.reads _ c.in_ok-rows.rows
    c.deref.result.now c.deref.ensures.value c.as_str.result.now c.as_str.ensures.value
    c.in_ok-meta.ensures.finds.own c.in_ok-meta.ensures.finds.last c.in_ok-rows.ensures.reads
    c.read_shelves.result c.read_shelves.ensures.read c.read_shelves.ensures.given
    c.read_shelves.ensures.text c.read_shelves.ensures.last c.read_shelves.ensures.rules
    c.read_shelves.ensures.either
