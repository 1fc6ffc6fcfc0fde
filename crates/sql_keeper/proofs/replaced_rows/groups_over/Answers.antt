use Rattle.sql_keeper.proofs.puts.RowsAdded.{groups_made}
use Rattle.sql_keeper.proofs.replaced_rows.groups_over.Goals as goal

pub returns : goal.returns
returns c =
    groups_made c.sessions-ended.result.now c.args.change.now.sessions c.args.sessions.now.items
    c.groups-named.result.now c.args.change.now.groups c.args.groups.items
    c.keep_groups.new.rows.items c.put_groups.new.rows.items c.add_groups.new.rows.items
    c.sessions-ended.ensures c.groups-named.ensures c.keep_groups.ensures
    c.in_ok-put_groups.ensures c.in_ok-add_groups.ensures
