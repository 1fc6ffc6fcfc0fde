use Rattle.std.proofs.Common.{sym}
use Rattle.sql_keeper.specs.Content.{shelf_names}
use Rattle.sql_keeper.proofs.puts.KeptGroups.{over_held, over_kept}
use Rattle.sql_keeper.proofs.held_groups.put_group_over.Goals as goal

pub returns-then-is_kept : goal.returns-then-is_kept
returns-then-is_kept g c =
    over_kept c.args.account.now (shelf_names c.args.books.now) c.args.seen.now c.args.row.now
    (sym c.if-is_kept.ensures) c.put_kept_group.ensures

pub returns-else-is_kept : goal.returns-else-is_kept
returns-else-is_kept g c =
    over_held c.args.account.now (shelf_names c.args.books.now) c.args.seen.now c.args.row.now
    (sym c.if-is_kept.ensures) c.put_held_group.ensures
