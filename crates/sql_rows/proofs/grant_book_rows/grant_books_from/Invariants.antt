use Rattle.std.proofs.Common.{◌≡◌, map, take}
use Rattle.sql_rows.specs.Lists.{grant_book_cells}
use Rattle.sql_rows.proofs.grant_book_rows.grant_books_from.Given as goal

abbrev pub invariant-rows : goal.invariant-rows
invariant-rows l = map grant_book_cells l.books.items ≡ take l.row-index l.rows
