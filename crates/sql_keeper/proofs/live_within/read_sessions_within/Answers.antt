use Rattle.std.proofs.Common.{◌∙◌, sym}
use Rattle.sqlite.specs.Held.{state}
use Rattle.reserving.proofs.Lists.{is_nothing}
use Rattle.sql_rows.specs.Content.{rows_in}
use Rattle.sql_rows.proofs.queries.Within.{book_still, failed_within, have_within, rules_still}
use Rattle.sql_rows.proofs.queries.Within.{within_both, within_made}
use Rattle.sql_keeper.specs.Content.{shelf_names}
use Rattle.sql_keeper.proofs.loads.LiveGroups.{none_open}
use Rattle.sql_keeper.proofs.live_within.read_sessions_within.Goals as goal

pub read_groups_within-requires-clause-tables : goal.read_groups_within-requires-clause-tables
read_groups_within-requires-clause-tables g c =
    book_still _ _ (have_within _ _ _ _ c.in_ok-sessions.ensures.reads) c.requires.tables

pub read_groups_within-requires-clause-rules : goal.read_groups_within-requires-clause-rules
read_groups_within-requires-clause-rules g c =
    rules_still _ _ (have_within _ _ _ _ c.in_ok-sessions.ensures.reads) c.requires.rules

pub returns-in_err-groups-clause-reads : goal.returns-in_err-groups-clause-reads
returns-in_err-groups-clause-reads g c =
    failed_within _ _ _ _ _ c.from_residual-in_err-groups.result _
    c.from_residual-in_err-groups.ensures.0
    (have_within _ _ _ _ c.in_ok-sessions.ensures.reads) c.in_err-groups.ensures.reads.still

pub returns-then-is_none-clause-reads : goal.returns-then-is_none-clause-reads
returns-then-is_none-clause-reads g c =
    within_made _ _ (state g.S.Store c.args.tx.now.conn.now)
    (state g.S.Store c.read_sessions_open_within.new.tx.conn.now) c.in_ok-sessions.sessions _
    c.in_ok-sessions.ensures.reads
    (λ trees told. none_open (shelf_names c.args.books.now)
    (rows_in trees c.args.account.now)
    c.in_ok-sessions.sessions.items c.new.result.items
    (sym c.deref.ensures.value ∙ is_nothing c.deref.result.now (sym c.if-is_none.ensures))
    c.new.ensures.items told)

pub returns-clause-reads : goal.returns-clause-reads
returns-clause-reads g c =
    within_both _ _ _ (state g.S.Store c.args.tx.now.conn.now)
    (state g.S.Store c.read_sessions_open_within.new.tx.conn.now)
    (state g.S.Store c.read_groups_within.new.tx.conn.now) c.in_ok-sessions.sessions
    c.in_ok-groups.groups _ c.in_ok-sessions.ensures.reads c.in_ok-groups.ensures.reads
    (λ trees first second. record { sessions = first; groups = second })
