use Rattle.std.proofs.Common.{rules, ◌≡◌, ◌∙◌, Some, ap}
use Rattle.std.specs.Prelude.{is_some}
use Rattle.shelves.specs.Shelves.{book_numbered}
use Rattle.sql_keeper.proofs.commits.Writable.{copied_some, name_there}
use Rattle.sql_keeper.proofs.testing.is_named.Goals as goal

pub returns-in-Some-clause-back : goal.returns-in-Some-clause-back
returns-in-Some-clause-back c = λ e.
    let has : Some c.in-Some.book.now ≡ book_numbered c.args.books.now c.args.number =
    c.in-Some.ensures.value in
    let some : c.is_some.result ≡ is_some c.period_name.result = search rules in
    some ∙ copied_some c.period_name.result ∙ ap is_some c.period_name.ensures.value
    ∙ name_there c.args.books.now c.args.number c.in-Some.book.now c.args.period has e
