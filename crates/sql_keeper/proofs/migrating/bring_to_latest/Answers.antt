use Rattle.std.proofs.Common.{sym, subst}
use Rattle.std.proofs.lemmas.Result.{err_from_is_err_and}
use Rattle.std.proofs.lemmas.Str.{IsUtf8-string_bytes}
use Rattle.sql_keeper.proofs.migrations.Brought.{HasRows, brought, brought_err, made_book}
use Rattle.sql_keeper.proofs.migrations.Brought.{made_first, made_inside, made_rules, meta_read}
use Rattle.sql_keeper.proofs.migrations.Brought.{no_meta, no_rows, no_shelf, not_made, not_put}
use Rattle.sql_keeper.proofs.migrations.Brought.{rows_read}
use Rattle.sql_keeper.proofs.migrating.bring_to_latest.Goals as goal

pub make_later-requires-clause-known : goal.make_later-requires-clause-known
make_later-requires-clause-known g c = (c.requires.known.0.0, c.requires.known.1)

pub make_later-requires-clause-has : goal.make_later-requires-clause-has
make_later-requires-clause-has g c clean on = (c.requires.at clean on).schema

pub returns-in_err-make_later-clause-brings : goal.returns-in_err-make_later-clause-brings
returns-in_err-make_later-clause-brings g c =
    let p = err_from_is_err_and c.from_residual.result c.from_residual.ensures.1 in
    brought_err _ _ _ _ p.0 _ p.1 p.2 (not_made _ _ _ _ _ c.in_err-make_later.ensures.store
    c.in_err-make_later.ensures.over.makes)

pub kept_within-requires-clause-tables : goal.kept_within-requires-clause-tables
kept_within-requires-clause-tables g c =
    made_book _ _ _ (made_first _ _ _ _ c.requires.at c.in_ok-make_later.ensures.over.makes)

pub kept_within-requires-clause-rules : goal.kept_within-requires-clause-rules
kept_within-requires-clause-rules g c =
    made_rules _ _ _ (made_first _ _ _ _ c.requires.at c.in_ok-make_later.ensures.over.makes)

pub returns-in_err-meta-clause-brings : goal.returns-in_err-meta-clause-brings
returns-in_err-meta-clause-brings g c =
    let p = err_from_is_err_and c.from_residual-in_err-meta.result
    c.from_residual-in_err-meta.ensures.1 in
    brought_err _ _ _ _ p.0 _ p.1 p.2 (no_meta _ c.requires.known.0 c.requires.known.1 _ _
    (made_first _ _ _ _ c.requires.at c.in_ok-make_later.ensures.over.makes) _ _
    c.in_err-meta.ensures.reads c.in_err-meta.ensures.finds)

pub books_within-requires-clause-tables : goal.books_within-requires-clause-tables
books_within-requires-clause-tables g c =
    made_book _ _ _ (meta_read _ c.requires.known.0 c.requires.known.1 _ _ _ c.in_ok-meta.meta
    (made_first _ _ _ _ c.requires.at c.in_ok-make_later.ensures.over.makes)
    c.in_ok-meta.ensures.reads).has

pub books_within-requires-clause-rules : goal.books_within-requires-clause-rules
books_within-requires-clause-rules g c =
    made_rules _ _ _ (meta_read _ c.requires.known.0 c.requires.known.1 _ _ _ c.in_ok-meta.meta
    (made_first _ _ _ _ c.requires.at c.in_ok-make_later.ensures.over.makes)
    c.in_ok-meta.ensures.reads).has

pub returns-in_err-rows-clause-brings : goal.returns-in_err-rows-clause-brings
returns-in_err-rows-clause-brings g c =
    let p = err_from_is_err_and c.from_residual-in_err-rows.result
    c.from_residual-in_err-rows.ensures.1 in
    brought_err _ _ _ _ p.0 _ p.1 p.2
    (no_rows _ c.requires.known.0 c.requires.known.1 _ _ c.in_ok-meta.meta
    (meta_read _ c.requires.known.0 c.requires.known.1 _ _ _ c.in_ok-meta.meta
    (made_first _ _ _ _ c.requires.at c.in_ok-make_later.ensures.over.makes)
    c.in_ok-meta.ensures.reads) _ _ _ c.in_err-rows.ensures.reads c.in_err-rows.ensures.told
    c.in_err-rows.ensures.ours c.in_ok-meta.ensures.finds.own c.in_err-rows.ensures.rules)

pub returns-in_err-read-clause-brings : goal.returns-in_err-read-clause-brings
returns-in_err-read-clause-brings g c =
    let p = err_from_is_err_and c.from_residual-in_err-read.result
    c.from_residual-in_err-read.ensures.1 in
    brought_err _ _ _ _ p.0 _ p.1 p.2
    (no_shelf _ c.requires.known.0 c.requires.known.1 _ _ c.in_ok-meta.meta
    c.deref.result.now
    (subst (HasRows _ _ _ c.in_ok-meta.meta) (sym c.deref.ensures.value)
    (rows_read _ c.requires.known.0 c.requires.known.1 _ _ _ c.in_ok-meta.meta c.in_ok-rows.rows
    (meta_read _ c.requires.known.0 c.requires.known.1 _ _ _ c.in_ok-meta.meta
    (made_first _ _ _ _ c.requires.at c.in_ok-make_later.ensures.over.makes)
    c.in_ok-meta.ensures.reads) c.in_ok-rows.ensures.reads))
    c.in_ok-meta.ensures.finds.own c.as_str.result.now c.as_str.ensures.value _
    c.in_err-read.ensures.rules c.in_err-read.ensures.either)

pub put_latest-requires-clause-known : goal.put_latest-requires-clause-known
put_latest-requires-clause-known g c = c.requires.known.0.0

pub put_latest-requires-clause-open : goal.put_latest-requires-clause-open
put_latest-requires-clause-open g c =
    made_inside _ _ _ (rows_read _ c.requires.known.0 c.requires.known.1 _ _ _ c.in_ok-meta.meta
    c.in_ok-rows.rows
    (meta_read _ c.requires.known.0 c.requires.known.1 _ _ _ c.in_ok-meta.meta
    (made_first _ _ _ _ c.requires.at c.in_ok-make_later.ensures.over.makes)
    c.in_ok-meta.ensures.reads) c.in_ok-rows.ensures.reads).meta.has

pub put_latest-requires-clause-tables : goal.put_latest-requires-clause-tables
put_latest-requires-clause-tables g c =
    made_book _ _ _ (rows_read _ c.requires.known.0 c.requires.known.1 _ _ _ c.in_ok-meta.meta
    c.in_ok-rows.rows
    (meta_read _ c.requires.known.0 c.requires.known.1 _ _ _ c.in_ok-meta.meta
    (made_first _ _ _ _ c.requires.at c.in_ok-make_later.ensures.over.makes)
    c.in_ok-meta.ensures.reads) c.in_ok-rows.ensures.reads).meta.has

pub put_latest-requires-clause-rules : goal.put_latest-requires-clause-rules
put_latest-requires-clause-rules g c =
    made_rules _ _ _ (rows_read _ c.requires.known.0 c.requires.known.1 _ _ _ c.in_ok-meta.meta
    c.in_ok-rows.rows
    (meta_read _ c.requires.known.0 c.requires.known.1 _ _ _ c.in_ok-meta.meta
    (made_first _ _ _ _ c.requires.at c.in_ok-make_later.ensures.over.makes)
    c.in_ok-meta.ensures.reads) c.in_ok-rows.ensures.reads).meta.has

pub returns-in-Ok-clause-brings : goal.returns-in-Ok-clause-brings
returns-in-Ok-clause-brings g c =
    brought _ c.requires.known.0 c.requires.known.1 _ _ c.in_ok-meta.meta c.deref.result.now
    (subst (HasRows _ _ _ c.in_ok-meta.meta) (sym c.deref.ensures.value)
    (rows_read _ c.requires.known.0 c.requires.known.1 _ _ _ c.in_ok-meta.meta c.in_ok-rows.rows
    (meta_read _ c.requires.known.0 c.requires.known.1 _ _ _ c.in_ok-meta.meta
    (made_first _ _ _ _ c.requires.at c.in_ok-make_later.ensures.over.makes)
    c.in_ok-meta.ensures.reads) c.in_ok-rows.ensures.reads))
    c.in_ok-meta.ensures.finds.own c.as_str.result.now c.as_str.ensures.value _
    c.in_ok-read.read c.in_ok-read.ensures.read c.in_ok-read.ensures.given
    c.in_ok-read.ensures.text c.in_ok-read.ensures.last c.in_ok-meta.ensures.finds.last
    (IsUtf8-string_bytes c.in_ok-meta.meta.book) c.requires.ruled _ c.in-Ok.ensures.over.makes

pub returns-clause-brings : goal.returns-clause-brings
returns-clause-brings g c =
    not_put _ c.requires.known.0 c.requires.known.1 _ _ c.in_ok-meta.meta c.deref.result.now
    (subst (HasRows _ _ _ c.in_ok-meta.meta) (sym c.deref.ensures.value)
    (rows_read _ c.requires.known.0 c.requires.known.1 _ _ _ c.in_ok-meta.meta c.in_ok-rows.rows
    (meta_read _ c.requires.known.0 c.requires.known.1 _ _ _ c.in_ok-meta.meta
    (made_first _ _ _ _ c.requires.at c.in_ok-make_later.ensures.over.makes)
    c.in_ok-meta.ensures.reads) c.in_ok-rows.ensures.reads))
    c.in_ok-meta.ensures.finds.own c.as_str.result.now c.as_str.ensures.value _ _
    c.read_fault.result c.in-Err.fault c.in-Err.ensures.over.makes c.read_fault.ensures.told
    c.read_fault.ensures.ours c.read_fault.ensures.rules c.in-Err.ensures.refused
