use Rattle.std.proofs.Common.{rules}
use Rattle.std.proofs.lemmas.Fn.{always_returns_same}
use Rattle.std.proofs.lemmas.Result.{IfErr-weaker}
use Rattle.sql_rows.specs.declared.session_book_rows.SessionBook.{SessionBook}
use Rattle.reserving.proofs.order.Searched.{Searched, searched}
use Rattle.sql_keeper.specs.GroupRows.{compare_books, is_book}
use Rattle.sql_keeper.proofs.loads.BookPlaces.{book_ties, books_ascend, books_total}
use Rattle.sql_keeper.proofs.own_rows.book_place.Goals as goal

-- a row of the session and group that are looked for
abbrev named : (c : goal.After-binary_search_by) → SessionBook
named c = record {
  session = c.args.session.now;
  columns = record { group = c.args.group; book = 0 };
}

found : (c : goal.After-binary_search_by) →
    Searched books_total (is_book c.args.session.now c.args.group) (named c) (book_ties (named c))
    c.args.numbers.now c.binary_search_by.result
found c =
    searched books_total (is_book c.args.session.now c.args.group) (named c) (book_ties (named c))
    c.args.numbers.now c.binary_search_by.result (books_ascend c.args.numbers.now c.requires)
    c.binary_search_by.ensures.bound
    (c.binary_search_by.ensures.position (λ y. compare_books y (named c))
    (always_returns_same _ _ _ (λ a r f called. (search rules, search rules))))

pub returns-clause-found : goal.returns-clause-found
returns-clause-found c = (found c).found

pub returns-clause-absent : goal.returns-clause-absent
returns-clause-absent c =
    IfErr-weaker c.binary_search_by.result _ _ (λ place gap. gap.none) (found c).absent
