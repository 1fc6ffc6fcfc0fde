use Rattle.std.proofs.Common.{map, refl, ◌∙◌}
use Rattle.sql_rows.specs.Texts.{book_at}
use Rattle.sql_tables.proofs.Telling.{reads_as}
use Rattle.sql_rows.proofs.rules.BookRules.{books_refused}
use Rattle.sql_rows.proofs.rules.MetaRules.{at_err, at_ok}
use Rattle.sql_rows.proofs.selections.ReadBooks.{read_books_text, read_books_plain, books_read}
use Rattle.sql_rows.proofs.book_rows.read_books.Goals as goal

pub read-requires-clause-plain : goal.read-requires-clause-plain
read-requires-clause-plain g c = read_books_plain

pub returns : goal.returns
returns g c = record {
  refused = λ clean. at_err _ _ _ c.books_from.result (λ e refused is. books_refused _ _ _
      (c.in_ok-rows.ensures.answers clean) (λ xs rows. refused is xs
      (c.deref.ensures.value ∙ rows))) c.books_from.ensures;
  reads = reads_as _ read_books_text _ _ _ _ _ _ c.books_from.result
      c.read.ensures.reads c.read.ensures.stops c.in_ok-rows.ensures.answers
      refl
      c.deref.ensures.value (at_ok _ _ c.books_from.result c.books_from.ensures)
      (λ xs. books_read _ _ _ (map book_at xs.items));
}
