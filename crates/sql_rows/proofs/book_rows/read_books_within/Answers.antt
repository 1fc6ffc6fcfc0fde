use Rattle.std.proofs.Common.{map, refl, ◌∙◌}
use Rattle.sql_rows.specs.Texts.{book_at}
use Rattle.sql_tables.proofs.Telling.{reads_within_as}
use Rattle.sql_rows.proofs.rules.BookRules.{books_refused}
use Rattle.sql_rows.proofs.rules.MetaRules.{at_err, at_ok}
use Rattle.sql_rows.proofs.selections.ReadBooks.{read_books_text, read_books_plain, books_read}
use Rattle.sql_rows.proofs.book_rows.read_books_within.Goals as goal

pub read_within-requires-clause-plain : goal.read_within-requires-clause-plain
read_within-requires-clause-plain g c = read_books_plain

pub returns-clause-reads : goal.returns-clause-reads
returns-clause-reads g c =
    reads_within_as _ read_books_text _ _ _ _ _ _ _ c.books_from.result
    c.in_ok-rows.ensures.still c.in_ok-rows.ensures.answers refl
    c.deref.ensures.value (at_ok _ _ c.books_from.result c.books_from.ensures)
    (λ xs. books_read _ _ _ (map book_at xs.items))

pub returns-clause-refused : goal.returns-clause-refused
returns-clause-refused g c clean =
    at_err _ _ _ c.books_from.result (λ e refused is. books_refused _ _ _
    (c.in_ok-rows.ensures.answers clean) (λ xs rows. refused is xs (c.deref.ensures.value ∙ rows)))
    c.books_from.ensures
