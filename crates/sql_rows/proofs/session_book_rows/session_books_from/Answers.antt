use Rattle.std.proofs.Common.{rules}
use Rattle.sql_rows.specs.Lists.{session_book_before}
use Rattle.sql_rows.specs.Texts.{session_book_at}
use Rattle.sql_rows.proofs.lists.Rising.{ascends_map}
use Rattle.sql_rows.proofs.session_book_rows.session_books_from.Goals as goal

pub returns-clause-order : goal.returns-clause-order
returns-clause-order c =
    ascends_map session_book_before session_book_at c.rows.books.items (search rules)
