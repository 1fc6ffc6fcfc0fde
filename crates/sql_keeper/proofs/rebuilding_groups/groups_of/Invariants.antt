use Rattle.std.proofs.Common.{map, take}
use Rattle.sql_rows.specs.Texts.{open_group_at}
use Rattle.sql_keeper.specs.Content.{shelf_names}
use Rattle.sql_keeper.specs.GroupRows.{AreGroupsOf}
use Rattle.sql_keeper.proofs.rebuilding_groups.groups_of.Given as goal

abbrev pub invariant-rows : goal.invariant-rows
invariant-rows l =
    AreGroupsOf (shelf_names l.books) l.buckets l.read.holds.items l.read.books.items
    (map open_group_at (take l.row-index l.read.groups.items)) l.groups.items
