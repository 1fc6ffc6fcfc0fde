use Rattle.sql_keeper.proofs.puts.RowsAdded.{purse_made}
use Rattle.sql_keeper.proofs.replaced_rows.purse_over.Goals as goal

pub returns : goal.returns
returns c =
    purse_made c.buckets-named.result.now c.args.change.now.buckets c.args.purse.now
    c.in_ok-buckets.buckets.items c.keep_buckets.new.rows.items c.put_buckets.new.rows.items
    c.add_buckets.new.rows.items c.in_ok-purse.purse c.buckets-named.ensures
    c.in_ok-buckets.ensures c.keep_buckets.ensures c.in_ok-put_buckets.ensures
    c.in_ok-add_buckets.ensures c.in_ok-purse.ensures
