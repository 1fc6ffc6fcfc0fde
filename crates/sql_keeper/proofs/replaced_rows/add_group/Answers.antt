use Rattle.std.proofs.Common.{subst, sym}
use Rattle.sql_keeper.specs.KeptRows.{IsPutIn}
use Rattle.sql_keeper.proofs.puts.RowsAdded.{group_added, group_unadded}
use Rattle.sql_keeper.proofs.replaced_rows.add_group.Goals as goal

pub returns-then-not-is_new_group : goal.returns-then-not-is_new_group
returns-then-not-is_new_group c =
    group_unadded c.args.sessions.now.items c.args.row.now c.args.rows.now.items
    (sym c.if-not-is_new_group.ensures)

pub returns : goal.returns
returns c =
    group_added c.args.sessions.now.items c.args.row.now c.args.rows.now.items
    c.insert_at.new.rows.items (sym c.if-not-is_new_group.ensures)
    (subst (λ x. IsPutIn x c.args.rows.now.items c.insert_at.new.rows.items)
    c.in_ok-copy.ensures c.in_ok-insert_at.ensures)
