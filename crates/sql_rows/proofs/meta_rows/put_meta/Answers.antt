use Rattle.std.proofs.Common.{◌∙◌, ap}
use Rattle.sql_rows.specs.Values.{nat}
use Rattle.sql_rows.proofs.puts.PutMeta.{makes_meta, rules_meta, bound_meta}
use Rattle.sql_rows.proofs.meta_rows.put_meta.Goals as goal

pub returns-clause-makes : goal.returns-clause-makes
returns-clause-makes g c =
    makes_meta (record { version = c.args.version; book = c.args.book.now; last = c.args.last }) _
    (bound_meta (record {
      version = c.args.version;
      book = c.args.book.now;
      last = c.args.last;
    }) _ _ _ _ c.whole-id.ensures
    c.whole-of_version.ensures
    c.text-of_book.ensures
    (c.large-moment.ensures ∙ ap nat c.seconds.ensures.value))
    _ _ c.run.result c.requires.tables c.run.ensures.makes

pub returns-clause-rules : goal.returns-clause-rules
returns-clause-rules g c =
    rules_meta (record { version = c.args.version; book = c.args.book.now; last = c.args.last }) _
    (bound_meta (record {
      version = c.args.version;
      book = c.args.book.now;
      last = c.args.last;
    }) _ _ _ _ c.whole-id.ensures
    c.whole-of_version.ensures
    c.text-of_book.ensures
    (c.large-moment.ensures ∙ ap nat c.seconds.ensures.value))
    _ _ c.run.result c.requires.tables c.run.ensures.makes
