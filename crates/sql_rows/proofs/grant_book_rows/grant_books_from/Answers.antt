use lib.Seq.{take_all}
use Rattle.std.proofs.Common.{◌≡◌, ◌∷◌, map, rules, refl, sym, ◌∙◌, arith}
use Rattle.std.proofs.lemmas.Result.{err_from_is_err_and}
use Rattle.sql_rows.specs.Lists.{grant_book_cells}
use Rattle.sql_rows.specs.Ruled.{IsRuledGrantBook}
use Rattle.sql_rows.proofs.rules.ListRules.{unordered}
use Rattle.sql_rows.proofs.rules.RowRules.{row_refused}
use Rattle.sqlite_value.specs.declared.value.Value.TheVariants.{Null}
use Rattle.sql_rows.specs.Lists.{Ascends, grant_book_before}
use Rattle.sql_rows.proofs.selections.ReadGrantBooks.{at_in}
use Rattle.sql_rows.proofs.grant_book_rows.grant_books_from.Goals as goal

pub returns-in_err-book-clause-refused : goal.returns-in_err-book-clause-refused
returns-in_err-book-clause-refused c =
    let p = err_from_is_err_and c.from_residual.result c.from_residual.ensures.1 in
    rw p.1 (λ e xs is up. row_refused grant_book_cells IsRuledGrantBook c.args.rows.now
    c.rows.row-index c.row-item.result (omega arith)
    c.row-item.is (c.in_err-book.ensures (sym p.2 ∙ e)) xs is)

pub returns-then-not-do_ascend-clause-refused : goal.returns-then-not-do_ascend-clause-refused
returns-then-not-do_ascend-clause-refused c e xs is up =
    let own : map grant_book_cells c.rows.books.items ≡ c.args.rows.now =
    c.rows.invariant ∙ take_all c.rows.row-index c.args.rows.now (omega arith) in
    let falls : Ascends grant_book_before c.rows.books.items → ⊥ = search rules in
    absurd (unordered grant_book_cells (λ w. at_in (Null ∷ Null ∷ w)) (λ x. refl) grant_book_before
    c.rows.books.items c.args.rows.now own falls xs is up)
