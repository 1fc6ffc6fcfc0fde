use Rattle.std.proofs.lemmas.Result.{err_from_is_err_and}
use Rattle.sqlite.specs.Held.{state}
use Rattle.sql_tables.specs.Schema.{latest}
use Rattle.sql_rules.proofs.Steps.{by_kept}
use Rattle.sql_keeper.proofs.openings.Causes.{latest_known}
use Rattle.sql_keeper.proofs.migrations.Moved.{any_err, any_latest, any_migrated, any_none}
use Rattle.sql_keeper.proofs.migrations.Moved.{any_unread, any_unruled, below_latest, found_at}
use Rattle.sql_keeper.proofs.migrations.Moved.{latest_last, latest_schema}
use Rattle.sql_keeper.proofs.openings.Opens.{idle_book}
use Rattle.sql_keeper.proofs.migrating.books_of_any.Goals as goal

pub returns-in_err-version-clause-finds : goal.returns-in_err-version-clause-finds
returns-in_err-version-clause-finds g c =
    let p = err_from_is_err_and c.from_residual.result c.from_residual.ensures.1 in
    any_err _ _ _ p.0 _ p.1 p.2
    (any_none _ _ _ c.in_err-version.ensures.told c.in_err-version.ensures.means
    c.in_err-version.ensures.still c.in_err-version.ensures.survives)

pub migrate_ruled-requires-clause-known : goal.migrate_ruled-requires-clause-known
migrate_ruled-requires-clause-known g c = (
  c.in_ok-version.ensures.version,
  below_latest c.in_ok-version.version c.in_ok-version.ensures.version c.if-version-ne-LATEST.true,
)

pub migrate_ruled-requires-clause-at : goal.migrate_ruled-requires-clause-at
migrate_ruled-requires-clause-at g c =
    found_at c.in_ok-version.version _ _ c.in_ok-version.ensures.found

pub returns-then-version-ne-LATEST-clause-finds : goal.returns-then-version-ne-LATEST-clause-finds
returns-then-version-ne-LATEST-clause-finds g c =
    any_migrated c.in_ok-version.version _ _ _ c.in_ok-version.ensures.found
    c.in_ok-version.ensures.survives c.in_ok-version.ensures.version
    (below_latest c.in_ok-version.version c.in_ok-version.ensures.version
    c.if-version-ne-LATEST.true)
    c.migrate_ruled.result c.migrate_ruled.ensures.migrates

pub latest_books-requires : goal.latest_books-requires
latest_books-requires g c = record {
  idle = idle_book _ _ _ c.if-version-ne-LATEST.false c.in_ok-version.ensures.found;
}

pub returns-in_err-read-clause-finds : goal.returns-in_err-read-clause-finds
returns-in_err-read-clause-finds g c =
    let p = err_from_is_err_and c.from_residual-in_err-read.result
    c.from_residual-in_err-read.ensures.1 in
    any_err _ _ _ p.0 _ p.1 p.2
    (any_unread c.in_ok-version.version _ _ _ c.if-version-ne-LATEST.false
    c.in_ok-version.ensures.found c.in_ok-version.ensures.survives c.in_ok-version.ensures.version
    _ c.in_err-read.ensures.reads)

pub test_rows-requires-clause-known : goal.test_rows-requires-clause-known
test_rows-requires-clause-known g c = latest_known

pub test_rows-requires-clause-ours : goal.test_rows-requires-clause-ours
test_rows-requires-clause-ours g c =
    latest_schema c.in_ok-version.version _ _ _ c.if-version-ne-LATEST.false
    c.in_ok-version.ensures.found c.in_ok-version.ensures.survives c.in_ok-version.ensures.version
    (state g.S.Store c.args.conn.now) c.in_ok-read.read c.in_ok-read.ensures.reads

pub returns-in_err-test_rows-clause-finds : goal.returns-in_err-test_rows-clause-finds
returns-in_err-test_rows-clause-finds g c =
    let p = err_from_is_err_and c.from_residual-in_err-test_rows.result
    c.from_residual-in_err-test_rows.ensures.1 in
    any_err _ _ _ p.0 _ p.1 p.2
    (any_unruled c.in_ok-version.version _ _ _ c.if-version-ne-LATEST.false
    c.in_ok-version.ensures.found c.in_ok-version.ensures.survives c.in_ok-version.ensures.version
    _ c.in_ok-read.read c.in_ok-read.ensures.reads _
    (by_kept _ _ latest _ _ _
    (latest_last c.in_ok-version.version _ _ _ c.if-version-ne-LATEST.false
    c.in_ok-version.ensures.found c.in_ok-version.ensures.survives c.in_ok-version.ensures.version
    (state g.S.Store c.args.conn.now) c.in_ok-read.read c.in_ok-read.ensures.reads)
    c.in_err-test_rows.ensures.tells))

pub returns-clause-finds : goal.returns-clause-finds
returns-clause-finds g c =
    any_latest c.in_ok-version.version _ _ _ c.if-version-ne-LATEST.false
    c.in_ok-version.ensures.found c.in_ok-version.ensures.survives c.in_ok-version.ensures.version
    _ c.in_ok-read.read c.in_ok-read.ensures.reads _
    (by_kept _ _ latest _ _ _
    (latest_last c.in_ok-version.version _ _ _ c.if-version-ne-LATEST.false
    c.in_ok-version.ensures.found c.in_ok-version.ensures.survives c.in_ok-version.ensures.version
    (state g.S.Store c.args.conn.now) c.in_ok-read.read c.in_ok-read.ensures.reads)
    c.in_ok-test_rows.ensures.tells)
