use Rattle.sqlite.specs.Held.{state}
use Rattle.sql_rows.specs.Content.{rows_in}
use Rattle.sql_keeper.proofs.reads.InTurn.{gathers_made}
use Rattle.sql_keeper.proofs.loads.LiveRows.{load_made}
use Rattle.sql_keeper.proofs.loading.load_of.Goals as goal
use Rattle.sql_keeper.specs.Content.{shelf_names}

pub returns-clause-reads : goal.returns-clause-reads
returns-clause-reads g c = gathers_made _ _ (state g.S.Store c.args.conn.now)
    (state g.S.Store c.read_live_account.new.conn)
    c.in_ok-rows.rows c.loaded_of.result c.in_ok-rows.ensures.reads
    (λ trees live.
    load_made (shelf_names c.args.names.now) c.args.shelf.now c.args.moment c.args.account.now
    (rows_in trees c.args.account.now) c.in_ok-rows.rows c.loaded_of.result
    c.loaded_of.ensures live)
