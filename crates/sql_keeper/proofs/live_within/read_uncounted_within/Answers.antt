use Rattle.sqlite.specs.Held.{state}
use Rattle.sql_rows.specs.Content.{rows_in}
use Rattle.sql_rows.proofs.queries.Within.{within_made}
use Rattle.sql_keeper.specs.Content.{shelf_names}
use Rattle.sql_keeper.specs.LiveRows.{without_counters}
use Rattle.sql_keeper.proofs.loads.LiveRows.{for_each}
use Rattle.sql_keeper.proofs.live_within.read_uncounted_within.Goals as goal

pub returns-clause-reads : goal.returns-clause-reads
returns-clause-reads g c =
    within_made _ _ (state g.S.Store c.args.tx.now.conn.now)
    (state g.S.Store c.read_rows_within.new.tx.conn.now)
    c.in_ok-read.read c.live_account_of.result c.in_ok-read.ensures.reads
    (λ trees found. for_each _ c.live_account_of.result (λ shelf t.
    c.live_account_of.ensures (shelf_names c.args.names.now) shelf t
    (without_counters (rows_in trees c.args.account.now)) (found shelf t)))
