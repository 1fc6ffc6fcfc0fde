use Rattle.std.proofs.lemmas.Result.{err_from_is_err_and}
use Rattle.sql_keeper.proofs.commits.Added.{not_put_at_once, put_at_once}
use Rattle.sql_keeper.proofs.shelf.Dated.{become_dated}
use Rattle.sql_keeper.proofs.adding_books.make_book.Goals as goal

pub returns-in_err-write_book-clause-commits : goal.returns-in_err-write_book-clause-commits
returns-in_err-write_book-clause-commits g c =
    let p = err_from_is_err_and c.from_residual.result c.from_residual.ensures.1 in
    rw p.1 (not_put_at_once _ _ _ _ (λ clean on. become_dated _ _ _ _) _ _
    c.in_err-write_book.ensures.transacts)

pub returns-clause-commits : goal.returns-clause-commits
returns-clause-commits g c =
    put_at_once _ _ _ _ (λ clean on. become_dated _ _ _ _) _ _
    c.in_ok-write_book.ensures.transacts
