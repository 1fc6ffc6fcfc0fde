use Rattle.std.proofs.Common.{◌∙◌, ap, sym}
use Rattle.shelves.specs.Shelves.{Shelf}
use Rattle.sql_keeper.proofs.books.read_book.Goals as goal

pub returns-clause-alone : goal.returns-clause-alone
returns-clause-alone c = record {
  is = c.first-first.ensures.shelf;
  alone = c.in_ok-own.ensures.alone;
  first = c.in_ok-own.ensures.read;
}

pub returns-clause-only : goal.returns-clause-only
returns-clause-only c = λ b is. ap (λ (s : Shelf). s.first) (c.in_ok-own.ensures.same b is)

pub returns-clause-given : goal.returns-clause-given
returns-clause-given c =
    c.in_ok-given.ensures.same c.in_ok-own.own.first c.in_ok-own.ensures.read
    ∙ sym c.in_ok-own.ensures.alone
