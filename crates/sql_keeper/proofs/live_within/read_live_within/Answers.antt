use Rattle.sqlite.specs.Held.{state}
use Rattle.sql_rows.proofs.queries.Within.{book_still, failed_within, have_within, rules_still}
use Rattle.sql_rows.proofs.queries.Within.{within_both}
use Rattle.sql_keeper.proofs.live_within.read_live_within.Goals as goal

pub read_sessions_within-requires-clause-tables : goal.read_sessions_within-requires-clause-tables
read_sessions_within-requires-clause-tables g c =
    book_still _ _ (have_within _ _ _ _ c.in_ok-purse.ensures.reads) c.requires.tables

pub read_sessions_within-requires-clause-rules : goal.read_sessions_within-requires-clause-rules
read_sessions_within-requires-clause-rules g c =
    rules_still _ _ (have_within _ _ _ _ c.in_ok-purse.ensures.reads) c.requires.rules

pub returns-in_err-sessions-clause-reads : goal.returns-in_err-sessions-clause-reads
returns-in_err-sessions-clause-reads g c =
    failed_within _ _ _ _ _ c.from_residual-in_err-sessions.result _
    c.from_residual-in_err-sessions.ensures.0 (have_within _ _ _ _ c.in_ok-purse.ensures.reads)
    c.in_err-sessions.ensures.reads.still

pub returns-clause-reads : goal.returns-clause-reads
returns-clause-reads g c =
    within_both _ _ _ (state g.S.Store c.args.tx.now.conn.now)
    (state g.S.Store c.read_purse_within.new.tx.conn.now)
    (state g.S.Store c.read_sessions_within.new.tx.conn.now) c.in_ok-purse.purse
    c.in_ok-sessions.field-0 _ c.in_ok-purse.ensures.reads c.in_ok-sessions.ensures.reads
    (λ trees first second. record {
      told = record { buckets = first; sessions = second.sessions; groups = second.groups.told };
      grants = second.groups.grants;
    })
