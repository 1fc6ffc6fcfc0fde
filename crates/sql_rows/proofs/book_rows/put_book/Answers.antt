use Rattle.std.proofs.Common.{rules, ◌∙◌, ap}
use Rattle.sql_rows.specs.Values.{nat, BookRow}
use Rattle.sql_rows.proofs.puts.PutBook.{makes_book, bound_book}
use Rattle.sql_rows.proofs.book_rows.put_book.Goals as goal

pub returns : goal.returns
returns g c = record {
  same_reference = search rules;
  makes = let x : BookRow = record { starts = c.args.starts; content = c.args.content.now } in
      makes_book c.args.number x _ (bound_book c.args.number x _ _ _ c.whole-of_number.ensures
      (c.large-moment.ensures ∙ ap nat c.seconds.ensures.value) c.text-of_content.ensures)
      _ _ c.run.result c.requires.tables c.run.ensures.makes;
}
