use Rattle.std.proofs.Common.{sym, subst}
use Rattle.std.proofs.lemmas.Result.{err_from_is_err_and}
use Rattle.sql_keeper.proofs.migrations.Brought.{HasRows, made_book, made_first, made_rules}
use Rattle.sql_keeper.proofs.migrations.Brought.{meta_read, no_meta, no_rows, not_made, rows_read}
use Rattle.sql_keeper.proofs.migrations.Brought.{shelf_err, shelf_read}
use Rattle.sql_keeper.proofs.older_shelves.shelf_within.Goals as goal

pub make_later-requires-clause-known : goal.make_later-requires-clause-known
make_later-requires-clause-known g c = (c.requires.known.0.0, c.requires.known.1)

pub make_later-requires-clause-has : goal.make_later-requires-clause-has
make_later-requires-clause-has g c clean on = (c.requires.at clean on).schema

pub returns-in_err-make_later-clause-reads : goal.returns-in_err-make_later-clause-reads
returns-in_err-make_later-clause-reads g c =
    let p = err_from_is_err_and c.from_residual.result c.from_residual.ensures.1 in
    shelf_err _ _ _ _ p.0 _ p.1 p.2 (not_made _ _ _ _ _ c.in_err-make_later.ensures.store
    c.in_err-make_later.ensures.over.makes)

pub kept_within-requires-clause-tables : goal.kept_within-requires-clause-tables
kept_within-requires-clause-tables g c =
    made_book _ _ _ (made_first _ _ _ _ c.requires.at c.in_ok-make_later.ensures.over.makes)

pub kept_within-requires-clause-rules : goal.kept_within-requires-clause-rules
kept_within-requires-clause-rules g c =
    made_rules _ _ _ (made_first _ _ _ _ c.requires.at c.in_ok-make_later.ensures.over.makes)

pub returns-in_err-meta-clause-reads : goal.returns-in_err-meta-clause-reads
returns-in_err-meta-clause-reads g c =
    let p = err_from_is_err_and c.from_residual-in_err-meta.result
    c.from_residual-in_err-meta.ensures.1 in
    shelf_err _ _ _ _ p.0 _ p.1 p.2 (no_meta _ c.requires.known.0 c.requires.known.1 _ _
    (made_first _ _ _ _ c.requires.at c.in_ok-make_later.ensures.over.makes) _ _
    c.in_err-meta.ensures.reads c.in_err-meta.ensures.finds)

pub books_within-requires-clause-tables : goal.books_within-requires-clause-tables
books_within-requires-clause-tables g c =
    made_book _ _ _ (meta_read _ c.requires.known.0 c.requires.known.1 _ _ _ c.in_ok-meta.meta
    (made_first _ _ _ _ c.requires.at c.in_ok-make_later.ensures.over.makes)
    c.in_ok-meta.ensures.reads).has

pub books_within-requires-clause-rules : goal.books_within-requires-clause-rules
books_within-requires-clause-rules g c =
    made_rules _ _ _ (meta_read _ c.requires.known.0 c.requires.known.1 _ _ _ c.in_ok-meta.meta
    (made_first _ _ _ _ c.requires.at c.in_ok-make_later.ensures.over.makes)
    c.in_ok-meta.ensures.reads).has

pub returns-in_err-rows-clause-reads : goal.returns-in_err-rows-clause-reads
returns-in_err-rows-clause-reads g c =
    let p = err_from_is_err_and c.from_residual-in_err-rows.result
    c.from_residual-in_err-rows.ensures.1 in
    shelf_err _ _ _ _ p.0 _ p.1 p.2
    (no_rows _ c.requires.known.0 c.requires.known.1 _ _ c.in_ok-meta.meta
    (meta_read _ c.requires.known.0 c.requires.known.1 _ _ _ c.in_ok-meta.meta
    (made_first _ _ _ _ c.requires.at c.in_ok-make_later.ensures.over.makes)
    c.in_ok-meta.ensures.reads) _ _ _ c.in_err-rows.ensures.reads c.in_err-rows.ensures.told
    c.in_err-rows.ensures.ours c.in_ok-meta.ensures.finds.own c.in_err-rows.ensures.rules)

pub returns-clause-reads : goal.returns-clause-reads
returns-clause-reads g c =
    shelf_read _ c.requires.known.0 c.requires.known.1 _ _ c.in_ok-meta.meta c.deref.result.now
    (subst (HasRows _ _ _ c.in_ok-meta.meta) (sym c.deref.ensures.value)
    (rows_read _ c.requires.known.0 c.requires.known.1 _ _ _ c.in_ok-meta.meta c.in_ok-rows.rows
    (meta_read _ c.requires.known.0 c.requires.known.1 _ _ _ c.in_ok-meta.meta
    (made_first _ _ _ _ c.requires.at c.in_ok-make_later.ensures.over.makes)
    c.in_ok-meta.ensures.reads) c.in_ok-rows.ensures.reads))
    c.in_ok-meta.ensures.finds.own c.as_str.result.now c.as_str.ensures.value
    c.read_shelves.result c.read_shelves.ensures.read c.read_shelves.ensures.last
    c.read_shelves.ensures.rules c.read_shelves.ensures.either
