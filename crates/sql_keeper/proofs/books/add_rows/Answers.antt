use Rattle.std.proofs.Common.{map, sym, ◌∙◌}
use Rattle.std.proofs.lemmas.Result.{err_from_is_err_and}
use Rattle.sql_rows.specs.Texts.{book_at}
use Rattle.sql_keeper.proofs.shelf.Shelving.{all_shelved, none_numbered, one_shelved, other_refused}
use Rattle.sql_keeper.proofs.shelf.Shelving.{own_refused, some_numbered}
use Rattle.sql_keeper.proofs.books.add_rows.Goals as goal

pub returns-in_default-clause-shelved : goal.returns-in_default-clause-shelved
returns-in_default-clause-shelved c =
    all_shelved c.args.read.now.own.first (map book_at c.args.rows.now) c.numbers.number
    c.numbers.read.own c.numbers.read.given c.numbers.invariant.shelves
    (none_numbered _ c.row_numbered.result c.numbers.number c.args.rows.now c.row_numbered.ensures
    c.in_default.is)

pub returns-in_err-add_row-clause-refused : goal.returns-in_err-add_row-clause-refused
returns-in_err-add_row-clause-refused c =
    let p = err_from_is_err_and c.from_residual.result c.from_residual.ensures.1 in
    rw p.1 (λ is. own_refused c.args.read.now.own.first (map book_at c.args.rows.now)
    c.numbers.number c.numbers.read.own c.numbers.read.given c.numbers.invariant.shelves
    (book_at c.in-Some.row.now).row
    (some_numbered _ c.row_numbered.result c.numbers.number c.args.rows.now c.in-Some.row
    c.row_numbered.ensures c.in-Some.is) (c.in_err-add_row.ensures.refused (sym p.2 ∙ is)))

pub returns-in_err-add_row-2-clause-refused : goal.returns-in_err-add_row-2-clause-refused
returns-in_err-add_row-2-clause-refused c =
    let p = err_from_is_err_and c.from_residual-in_err-add_row-2.result
    c.from_residual-in_err-add_row-2.ensures.1 in
    rw p.1 (λ is. other_refused c.args.read.now.own.first (map book_at c.args.rows.now)
    c.numbers.number c.numbers.read.own c.numbers.read.given c.numbers.invariant.shelves
    (book_at c.in-Some.row.now).row
    (some_numbered _ c.row_numbered.result c.numbers.number c.args.rows.now c.in-Some.row
    c.row_numbered.ensures c.in-Some.is) (c.in_err-add_row-2.ensures.refused (sym p.2 ∙ is)))

pub numbers-preserved : goal.numbers-preserved
numbers-preserved c = record {
  shelves = one_shelved c.args.read.now.own.first (map book_at c.args.rows.now) c.numbers.number
      c.numbers.read.own c.numbers.read.given c.numbers.invariant.shelves
      (book_at c.in-Some.row.now).row c.add_row.new.shelf c.add_row-in-numbers.new.shelf
      (some_numbered _ c.row_numbered.result c.numbers.number c.args.rows.now c.in-Some.row
      c.row_numbered.ensures c.in-Some.is)
      c.in_ok-add_row.ensures.added c.in_ok-add_row-2.ensures.added;
  text = c.numbers.invariant.text;
  last = c.numbers.invariant.last;
}
