use Rattle.std.proofs.Common.{◌≡◌, map, take}
use Rattle.sql_rows.specs.Lists.{book_at_cells}
use Rattle.sql_rows.specs.Texts.{book_at}
use Rattle.sql_rows.proofs.book_rows.books_from.Given as goal

abbrev pub invariant-rows : goal.invariant-rows
invariant-rows l = map book_at_cells (map book_at l.books.items) ≡ take l.row-index l.rows
