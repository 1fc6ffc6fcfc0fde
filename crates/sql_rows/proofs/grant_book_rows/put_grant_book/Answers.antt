use Rattle.std.proofs.Common.{rules, ◌∙◌, ap}
use Rattle.sqlite_value.specs.declared.value.Value.TheVariants.{Text}
use Rattle.sql_rows.proofs.puts.PutGrantBook.{makes_grant_book, bound_grant_book}
use Rattle.sql_rows.proofs.grant_book_rows.put_grant_book.Goals as goal

pub returns : goal.returns
returns g c = record {
  same_reference = search rules;
  makes = makes_grant_book c.args.account.now c.args.session.now c.args.group c.args.book _
      (bound_grant_book c.args.account.now c.args.session.now c.args.group c.args.book _ _ _ _
      (c.text-of_account.ensures ∙ ap Text c.as_str.ensures.value)
      (c.text-of_session.ensures ∙ ap Text c.as_str-2.ensures.value)
      c.whole-of_group.ensures c.whole-number.ensures)
      _ _ c.run.result c.requires.tables c.run.ensures.makes;
}
