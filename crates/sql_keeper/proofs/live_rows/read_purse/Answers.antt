use Rattle.sqlite.specs.Held.{state}
use Rattle.sql_rows.specs.Content.{rows_in}
use Rattle.sql_keeper.proofs.loads.CountedRows.{purse_told}
use Rattle.sql_keeper.proofs.reads.Told.{made_of, one_tells}
use Rattle.sql_keeper.proofs.live_rows.read_purse.Goals as goal

pub returns : goal.returns
returns g c =
    made_of _ _ (state g.S.Store c.args.conn.now)
    (state g.S.Store c.read_buckets_live.new.conn) c.live_purse_of.result
    (one_tells _ _ _ c.in_ok-rows.rows c.in_ok-rows.ensures.reads)
    (λ trees told. purse_told (rows_in trees c.args.account.now) c.in_ok-rows.rows.items
    c.deref.result.now c.live_purse_of.result told c.deref.ensures.value c.live_purse_of.ensures)
