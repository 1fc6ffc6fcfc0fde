use Rattle.std.proofs.Common.{◌∙◌, arith}
use Rattle.sql_rows.specs.Content.{with_grant_book, with_rows}
use Rattle.sql_rows.specs.declared.reserved_rows.ReservedColumns.{ReservedColumns}
use Rattle.sql_rows.proofs.puts.Each.{put_next}
use Rattle.sql_keeper.proofs.puts.Puts.{all_over}
use Rattle.sql_keeper.proofs.migrating.put_numbers.Goals as goal

pub rows-preserved : goal.rows-preserved
rows-preserved g c = record {
  same = c.in_ok-put_grant_book.ensures.same_reference ∙ c.rows.invariant.same;
  put = put_next (λ (x : ReservedColumns).
      with_rows x.account (with_grant_book x.session x.group 1)) c.args.rows.now c.rows.row-index
      c.row-item.result
      _ _ _ _ (omega arith) c.row-item.is c.rows.invariant.put
      c.in_ok-put_grant_book.ensures.makes;
}

pub returns : goal.returns
returns g c = all_over c.rows.row-index c.rows.invariant.same c.rows.invariant.put (omega arith)
