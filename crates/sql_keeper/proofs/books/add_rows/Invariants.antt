use Rattle.std.proofs.Common.{◌≡◌, map}
use Rattle.sql_rows.specs.Texts.{book_at}
use Rattle.sql_keeper.proofs.shelf.Shelving.{AreShelvedTo}
use Rattle.sql_keeper.proofs.books.add_rows.Given as goal

abbrev pub invariant-numbers : goal.invariant-numbers
invariant-numbers l = record {
  shelves : AreShelvedTo l.fn.read.own.first (map book_at l.rows) l.number l.read.own l.read.given;
  text : l.read.text ≡ l.fn.read.text;
  last : l.read.last ≡ l.fn.read.last;
}
