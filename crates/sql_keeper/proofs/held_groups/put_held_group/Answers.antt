use Rattle.sql_keeper.proofs.puts.Puts.{makes_then, makes_all_then, makes_failed}
use Rattle.sql_keeper.proofs.held_groups.put_held_group.Goals as goal

pub returns : goal.returns
returns g c =
    makes_all_then
    (makes_then (makes_then c.in_ok-put_columns.ensures c.in_ok-put_number.ensures)
    c.in_ok-remove_holds.ensures) c.put_held.ensures

pub returns-in_err-put_number : goal.returns-in_err-put_number
returns-in_err-put_number g c =
    makes_failed c.from_residual-in_err-put_number.ensures.0 c.in_ok-put_columns.ensures
    c.in_err-put_number.ensures

pub returns-in_err-remove_holds : goal.returns-in_err-remove_holds
returns-in_err-remove_holds g c =
    makes_failed c.from_residual-in_err-remove_holds.ensures.0
    (makes_then c.in_ok-put_columns.ensures c.in_ok-put_number.ensures)
    c.in_err-remove_holds.ensures
