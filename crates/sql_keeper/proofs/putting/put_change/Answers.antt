use Rattle.std.proofs.Common.{arith}
use Rattle.sql_tables.proofs.Keeps.{on_ok}
use Rattle.sql_keeper.specs.Content.{shelf_names}
use Rattle.sql_keeper.specs.Numbers.{LacksCharges}
use Rattle.sql_keeper.specs.Writes.{with_changed_rows, with_moment_put, with_named}
use Rattle.sql_keeper.proofs.puts.NewCharges.{so_before}
use Rattle.sql_keeper.proofs.puts.Puts.{list_failed, list_makes, makes_all_then, makes_failed}
use Rattle.sql_keeper.proofs.putting.put_change.Goals as goal

pub returns-clause-over : goal.returns-clause-over
returns-clause-over g c =
    makes_all_then
    (makes_all_then (list_makes c.in_ok-put_moment.ensures c.in_ok-put_rows.ensures.over)
    c.in_ok-put_kept.ensures) c.put_redeemed.ensures

pub returns-in_err-put_rows-clause-over : goal.returns-in_err-put_rows-clause-over
returns-in_err-put_rows-clause-over g c =
    list_failed c.from_residual-in_err-put_rows.ensures.0 c.in_ok-put_moment.ensures
    c.in_err-put_rows.ensures.over

pub returns-in_err-put_kept-clause-over : goal.returns-in_err-put_kept-clause-over
returns-in_err-put_kept-clause-over g c =
    makes_failed c.from_residual-in_err-put_kept.ensures.0
    (list_makes c.in_ok-put_moment.ensures c.in_ok-put_rows.ensures.over)
    c.in_err-put_kept.ensures

pub returns-clause-free : goal.returns-clause-free
returns-clause-free g c = λ clean.
    let change = c.args.change.now in
    let known = c.args.known.now in
    on_ok c.put_redeemed.result
    (so_before (with_moment_put known.is_there change.moment)
    (with_changed_rows (shelf_names c.args.books.now) known change)
    (λ x. LacksCharges change.number
    (with_named change.number (shelf_names c.args.books.now) known change.rows x)
    change.charges.items) _ _ _ c.in_ok-put_moment.field-0 c.in_ok-put_rows.field-0
    c.in_ok-put_moment.ensures.makes c.in_ok-put_rows.ensures.over.makes
    c.in_ok-put_rows.ensures.free
    (omega (
      arith,
      c.in_ok-put_kept.ensures.makes.survives.clean,
      c.put_redeemed.ensures.makes.survives.clean,
      clean,
    )))
