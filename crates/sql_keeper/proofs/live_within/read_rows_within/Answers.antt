use Rattle.sqlite.specs.Held.{state}
use Rattle.std.proofs.Common.{◌∙◌, sym}
use Rattle.sql_rows.specs.Content.{rows_in}
use Rattle.sql_rows.proofs.queries.Within.{book_still, failed_within, have_within, rules_still}
use Rattle.sql_rows.proofs.queries.Within.{within_both, within_made}
use Rattle.sql_keeper.specs.Content.{shelf_names}
use Rattle.sql_keeper.proofs.loads.LiveRows.{uncounted}
use Rattle.sql_keeper.proofs.live_within.read_rows_within.Goals as goal

pub read_live_within-requires-clause-tables : goal.read_live_within-requires-clause-tables
read_live_within-requires-clause-tables g c =
    book_still _ _ (have_within _ _ _ _ c.in_ok-head.ensures.reads) c.requires.tables

pub read_live_within-requires-clause-rules : goal.read_live_within-requires-clause-rules
read_live_within-requires-clause-rules g c =
    rules_still _ _ (have_within _ _ _ _ c.in_ok-head.ensures.reads) c.requires.rules

pub returns-in_default-clause-reads : goal.returns-in_default-clause-reads
returns-in_default-clause-reads g c =
    within_made _ _ (state g.S.Store c.args.tx.now.conn.now)
    (state g.S.Store c.read_account_within.new.tx.conn.now) c.in_ok-head.field-0 _
    c.in_ok-head.ensures.reads (λ trees told shelf t. sym told ∙ c.in_default.is)

pub returns-in_err-rows-clause-reads : goal.returns-in_err-rows-clause-reads
returns-in_err-rows-clause-reads g c =
    failed_within _ _ _ _ _ c.from_residual-in_err-rows.result _
    c.from_residual-in_err-rows.ensures.0
    (have_within _ _ _ _ c.in_ok-head.ensures.reads) c.in_err-rows.ensures.reads.still

pub returns-clause-reads : goal.returns-clause-reads
returns-clause-reads g c =
    within_both _ _ _ (state g.S.Store c.args.tx.now.conn.now)
    (state g.S.Store c.read_account_within.new.tx.conn.now)
    (state g.S.Store c.read_live_within.new.tx.conn.now) c.in_ok-head.field-0
    c.in_ok-rows.rows _
    c.in_ok-head.ensures.reads c.in_ok-rows.ensures.reads
    (λ trees first second. uncounted (shelf_names c.args.names.now)
    (rows_in trees c.args.account.now)
    (record { head = c.in-Some.head; rows = c.in_ok-rows.rows; counters = c.new.result })
    (sym c.in-Some.is ∙ first) second c.new.ensures.items)
