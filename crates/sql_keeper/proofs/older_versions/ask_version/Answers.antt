use Rattle.std.proofs.lemmas.Result.{err_from_is_err_and}
use Rattle.sql_keeper.proofs.migrations.Brought.{asked_err, asks_meta, asks_no_meta, asks_not_made}
use Rattle.sql_keeper.proofs.migrations.Brought.{made_book, made_first, made_rules, meta_read}
use Rattle.sql_keeper.proofs.older_versions.ask_version.Goals as goal

pub make_later-requires-clause-known : goal.make_later-requires-clause-known
make_later-requires-clause-known g c = (c.requires.known.0.0, c.requires.known.1)

pub make_later-requires-clause-has : goal.make_later-requires-clause-has
make_later-requires-clause-has g c clean on = (c.requires.at clean on).schema

pub returns-in_err-make_later-clause-asks : goal.returns-in_err-make_later-clause-asks
returns-in_err-make_later-clause-asks g c =
    let p = err_from_is_err_and c.from_residual.result c.from_residual.ensures.1 in
    asked_err _ _ _ _ p.0 _ p.1 p.2 (asks_not_made _ _ _ _ _ c.in_err-make_later.ensures.store
    c.in_err-make_later.ensures.over.makes)

pub kept_within-requires-clause-tables : goal.kept_within-requires-clause-tables
kept_within-requires-clause-tables g c =
    made_book _ _ _ (made_first _ _ _ _ c.requires.at c.in_ok-make_later.ensures.over.makes)

pub kept_within-requires-clause-rules : goal.kept_within-requires-clause-rules
kept_within-requires-clause-rules g c =
    made_rules _ _ _ (made_first _ _ _ _ c.requires.at c.in_ok-make_later.ensures.over.makes)

pub returns-in_err-_meta-clause-asks : goal.returns-in_err-_meta-clause-asks
returns-in_err-_meta-clause-asks g c =
    let p = err_from_is_err_and c.from_residual-in_err-_meta.result
    c.from_residual-in_err-_meta.ensures.1 in
    asked_err _ _ _ _ p.0 _ p.1 p.2 (asks_no_meta _ c.requires.known.0 c.requires.known.1 _ _
    (made_first _ _ _ _ c.requires.at c.in_ok-make_later.ensures.over.makes) _ _
    c.in_err-_meta.ensures.reads c.in_err-_meta.ensures.finds)

pub returns-clause-asks : goal.returns-clause-asks
returns-clause-asks g c =
    asks_meta _ c.requires.known.0 c.requires.known.1 _ _ c.in_ok-_meta._meta
    (meta_read _ c.requires.known.0 c.requires.known.1 _ _ _ c.in_ok-_meta._meta
    (made_first _ _ _ _ c.requires.at c.in_ok-make_later.ensures.over.makes)
    c.in_ok-_meta.ensures.reads) _ c.in_ok-_meta.ensures.finds.own c.in_ok-_meta.ensures.finds.last
