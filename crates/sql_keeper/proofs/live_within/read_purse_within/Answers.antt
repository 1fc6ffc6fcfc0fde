use Rattle.sqlite.specs.Held.{state}
use Rattle.sql_rows.specs.Content.{rows_in}
use Rattle.sql_rows.proofs.queries.Within.{within_made}
use Rattle.sql_keeper.proofs.loads.CountedRows.{purse_told}
use Rattle.sql_keeper.proofs.live_within.read_purse_within.Goals as goal

pub returns-clause-reads : goal.returns-clause-reads
returns-clause-reads g c =
    within_made _ _ (state g.S.Store c.args.tx.now.conn.now)
    (state g.S.Store c.read_buckets_live_within.new.tx.conn.now) c.in_ok-rows.rows
    c.live_purse_of.result c.in_ok-rows.ensures.reads
    (λ trees told. purse_told (rows_in trees c.args.account.now) c.in_ok-rows.rows.items
    c.deref.result.now c.live_purse_of.result told c.deref.ensures.value c.live_purse_of.ensures)
