use Rattle.sqlite.specs.Held.{state}
use Rattle.sql_rows.specs.Content.{rows_in}
use Rattle.sql_keeper.proofs.reads.InTurn.{gathers_made}
use Rattle.sql_keeper.proofs.live_rows.read_live_account.Goals as goal
use Rattle.sql_keeper.specs.Content.{shelf_names}

pub returns-clause-reads : goal.returns-clause-reads
returns-clause-reads g c =
    gathers_made _ _ (state g.S.Store c.args.conn.now)
    (state g.S.Store c.read_rows_at.new.conn)
    c.in_ok-read.read c.live_account_of.result c.in_ok-read.ensures.reads
    (λ trees found. c.live_account_of.ensures (shelf_names c.args.names.now) c.args.shelf.now
    c.args.moment (rows_in trees c.args.account.now) found)
