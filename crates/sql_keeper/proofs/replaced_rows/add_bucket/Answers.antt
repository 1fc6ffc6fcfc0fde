use Rattle.std.proofs.Common.{◌≡◌, subst, sym, rules}
use Rattle.sql_keeper.specs.KeptRows.{IsPutIn}
use Rattle.sql_keeper.proofs.puts.RowsAdded.{bucket_added, bucket_unadded}
use Rattle.sql_keeper.proofs.replaced_rows.add_bucket.Goals as goal

pub returns-then-not-is_new_bucket : goal.returns-then-not-is_new_bucket
returns-then-not-is_new_bucket c =
    bucket_unadded c.args.row.now c.args.rows.now.items (sym c.if-not-is_new_bucket.ensures)

pub returns : goal.returns
returns c =
    let same : c.in_ok-copy.copy ≡ c.args.row.now = search rules in
    bucket_added c.args.row.now c.args.rows.now.items c.insert_at.new.rows.items
    (sym c.if-not-is_new_bucket.ensures)
    (subst (λ x. IsPutIn x c.args.rows.now.items c.insert_at.new.rows.items)
    same c.in_ok-insert_at.ensures)
