use Rattle.std.proofs.Common.{rules}
use Rattle.sql_keeper.proofs.openings.Empty.{builds_book}
use Rattle.sql_keeper.proofs.creating.put_book.Goals as goal

pub returns : goal.returns
returns g c = record {
  same_reference = search rules;
  makes = builds_book c.args.text.now _ c.first.ensures _ _ _ _ _ _ c.in_ok-create_each.ensures.makes
      c.in_ok-put_meta.ensures.makes;
}
