use Rattle.sqlite.specs.Held.{state}
use Rattle.sql_rows.specs.Content.{rows_in}
use Rattle.sql_keeper.proofs.loads.CountedRows.{dead_made}
use Rattle.sql_keeper.proofs.reads.Told.{made_of, one_tells, tell_both}
use Rattle.sql_keeper.proofs.dead.dead_of.Goals as goal

pub returns : goal.returns
returns g c =
    made_of _ _ (state g.S.Store c.args.conn.now) (state g.S.Store c.read_allowances.new.conn)
    c.buckets_of.result
    (tell_both _ _ (state g.S.Store c.args.conn.now)
    (state g.S.Store c.read_buckets_dead.new.conn)
    (state g.S.Store c.read_allowances.new.conn)
    (one_tells _ _ _ c.in_ok-rows.rows c.in_ok-rows.ensures.reads)
    (one_tells _ _ _ c.in_ok-allowances.allowances c.in_ok-allowances.ensures.reads))
    (λ trees told. dead_made (λ bs. bs.items) (rows_in trees c.args.account.now)
    c.in_ok-rows.rows.items c.deref.result.now c.in_ok-allowances.allowances.items
    c.deref-2.result.now c.buckets_of.result c.deref.ensures.value c.deref-2.ensures.value told.0
    c.in_ok-rows.ensures.order told.1 c.buckets_of.ensures)
