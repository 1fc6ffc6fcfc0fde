use Rattle.std.proofs.Common.{◌≡◌, ◌∙◌, sym, subst, Ok, Err}
use Rattle.sqlite.specs.Held.{state}
use Rattle.sql_keeper.specs.Migrates.{MigratesTables}
use Rattle.sql_keeper.proofs.migrations.Moved.{begun_ruled, migrated, not_committed}
use Rattle.sql_keeper.proofs.migrating.migrate_tables.Goals as goal

pub bring_to_latest-requires-clause-ruled : goal.bring_to_latest-requires-clause-ruled
bring_to_latest-requires-clause-ruled g c =
    begun_ruled g.S.Store c.args.conn.now c.transaction-tx.result.conn.now
    c.transaction-tx.ensures.begun c.args.version c.requires.ruled

pub returns-in-Ok-clause-migrates : goal.returns-in-Ok-clause-migrates
returns-in-Ok-clause-migrates g c =
    let same : c.commit.new.self.0 ≡ c.conn-2-1.given.0 =
    sym (c.conn-2-1.given.1 (sym (c.in_ok-read.ensures.same_reference
    ∙ c.transaction-tx.ensures.same_reference))) in
    subst (λ h. MigratesTables c.args.version (state g.S.Store c.args.conn.now)
    (state g.S.Store h) (Ok c.in_ok-read.read)) same
    (migrated g.S.Store c.args.conn.now c.transaction-tx.result.conn.now
    c.transaction-tx.ensures.begun c.args.version c.requires.at _ _ c.in_ok-read.read
    c.in_ok-read.ensures.brings c.in-Ok.ensures.survives
    (λ clean. let it = c.in-Ok.ensures.ok clean in (it.0, it.1)))

pub returns-in-Err-clause-migrates : goal.returns-in-Err-clause-migrates
returns-in-Err-clause-migrates g c =
    let same : c.commit.new.self.0 ≡ c.conn-2-1.given.0 =
    sym (c.conn-2-1.given.1 (sym (c.in_ok-read.ensures.same_reference
    ∙ c.transaction-tx.ensures.same_reference))) in
    subst (λ h. MigratesTables c.args.version (state g.S.Store c.args.conn.now)
    (state g.S.Store h) (Err c.open_fault.result)) same
    (not_committed g.S.Store c.args.conn.now c.transaction-tx.result.conn.now
    c.transaction-tx.ensures.begun c.args.version c.requires.at _ _ c.in_ok-read.read
    c.in_ok-read.ensures.brings c.in-Err.ensures.survives c.in-Err.error c.open_fault.result
    c.open_fault.ensures c.in-Err.ensures.err)
