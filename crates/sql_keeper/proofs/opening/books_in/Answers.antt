use Rattle.std.proofs.Common.{Err, ap, subst, sym, ◌∙◌}
use Rattle.std.proofs.lemmas.Result.{err_from_is_err_and}
use Rattle.sqlite.specs.Held.{state}
use Rattle.sql_keeper.specs.Finds.{FindsBooks}
use Rattle.sql_keeper.proofs.migrations.Moved.{below_latest, found_at}
use Rattle.sql_keeper.proofs.openings.Opens.{finds_books, finds_none, finds_older, idle_book}
use Rattle.sql_keeper.proofs.opening.books_in.Goals as goal

pub latest_books-requires : goal.latest_books-requires
latest_books-requires g c = record {
  idle = idle_book _ _ _ c.if-version-ne-LATEST.false c.in_ok-version.ensures.found;
}

pub returns-in_err-version-clause-finds : goal.returns-in_err-version-clause-finds
returns-in_err-version-clause-finds g c =
    let p = err_from_is_err_and c.from_residual.result c.from_residual.ensures.1 in
    subst (FindsBooks (state g.S.Store c.args.conn.now) (state g.S.Store c.find_tables.new.conn))
    (sym (p.1 ∙ ap Err p.2))
    (finds_none _ _ _ c.in_err-version.ensures.told c.in_err-version.ensures.means
    c.in_err-version.ensures.still c.in_err-version.ensures.survives)

pub returns-then-version-ne-LATEST-clause-finds : goal.returns-then-version-ne-LATEST-clause-finds
returns-then-version-ne-LATEST-clause-finds g c =
    finds_older c.in_ok-version.version _ _ _ c.older_fault.result c.if-version-ne-LATEST.true
    c.in_ok-version.ensures.found c.in_ok-version.ensures.survives c.older_fault.ensures.finds

pub older_fault-requires-clause-known : goal.older_fault-requires-clause-known
older_fault-requires-clause-known g c = (
  c.in_ok-version.ensures.version,
  below_latest c.in_ok-version.version c.in_ok-version.ensures.version c.if-version-ne-LATEST.true,
)

pub older_fault-requires-clause-at : goal.older_fault-requires-clause-at
older_fault-requires-clause-at g c =
    found_at c.in_ok-version.version _ _ c.in_ok-version.ensures.found

pub returns-clause-finds : goal.returns-clause-finds
returns-clause-finds g c =
    finds_books c.in_ok-version.version _ _ _ c.in_ok-version.ensures.found
    c.in_ok-version.ensures.survives c.latest_books.ensures.reads.only
    c.latest_books.ensures.reads.survives c.if-version-ne-LATEST.false c.latest_books.result
    c.latest_books.ensures.reads
