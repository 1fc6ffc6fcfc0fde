use Rattle.sql_keeper.proofs.puts.RowsAdded.{sessions_made}
use Rattle.sql_keeper.proofs.replaced_rows.sessions_over.Goals as goal

pub returns : goal.returns
returns c =
    sessions_made c.sessions-named.result.now c.args.change.now.sessions c.args.sessions.items
    c.keep_sessions.new.rows.items c.put_sessions.new.rows.items c.add_sessions.new.rows.items
    c.sessions-named.ensures c.keep_sessions.ensures c.in_ok-put_sessions.ensures
    c.in_ok-add_sessions.ensures
