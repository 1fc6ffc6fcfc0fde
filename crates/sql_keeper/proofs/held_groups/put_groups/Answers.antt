use Rattle.std.proofs.Common.{◌∙◌, arith}
use Rattle.sql_keeper.specs.Content.{shelf_names}
use Rattle.sql_keeper.specs.Writes.{with_held_group}
use Rattle.sql_rows.proofs.puts.Each.{put_next}
use Rattle.sql_keeper.proofs.puts.Puts.{all_over}
use Rattle.sql_keeper.proofs.held_groups.put_groups.Goals as goal

pub rows-preserved : goal.rows-preserved
rows-preserved g c = record {
  same = c.in_ok-put_held_group.ensures.same_reference ∙ c.rows.invariant.same;
  put = put_next (with_held_group c.args.account.now (shelf_names c.args.books.now)) c.args.rows.now
      c.rows.row-index c.row-item.result
      _ _ _ _ (omega arith) c.row-item.is c.rows.invariant.put c.in_ok-put_held_group.ensures.makes;
}

pub returns : goal.returns
returns g c = all_over c.rows.row-index c.rows.invariant.same c.rows.invariant.put (omega arith)
