use Rattle.std.proofs.Common.{◌≡◌, List, ap, arith, get_or, length, subst}
use Rattle.sql_rows.specs.declared.open_group_rows.OpenGroup.{OpenGroup}
use Rattle.sql_keeper.specs.Content.{shelf_names}
use Rattle.sql_keeper.specs.GroupRows.{IsGroupOf}
use Rattle.sql_keeper.proofs.loads.GroupRows.{row_made}
use Rattle.sql_keeper.proofs.rebuilding_groups.groups_of.Goals as goal

pub rows-preserved : goal.rows-preserved
rows-preserved c =
    let rows = c.args.read.now.groups.items in
    row_made
    (IsGroupOf (shelf_names c.args.books.now) c.args.buckets.now c.args.read.now.holds.items
    c.args.read.now.books.items)
    rows c.rows.row-index c.row-item.result c.rows.groups.items c.push.new.self.items
    c.in_ok-group.group (omega (arith, ap length c.deref-row-items.ensures.value))
    (subst (λ (l : List OpenGroup). c.row-item.result ≡ get_or l c.rows.row-index c.row-item.result)
    c.deref-row-items.ensures.value c.row-item.is)
    c.in_ok-push.ensures.items c.rows.invariant c.in_ok-group.ensures
