use Rattle.std.proofs.Common.{◌≡◌, map, take}
use Rattle.sql_rows.specs.Lists.{session_book_cells}
use Rattle.sql_rows.specs.Texts.{session_book_at}
use Rattle.sql_rows.proofs.session_book_rows.session_books_from.Given as goal

abbrev pub invariant-rows : goal.invariant-rows
invariant-rows l =
    map session_book_cells (map session_book_at l.books.items) ≡ take l.row-index l.rows
