use Rattle.sql_keeper.proofs.puts.Puts.{makes_all_then, makes_failed}
use Rattle.sql_keeper.proofs.held_groups.put_new_group.Goals as goal

pub returns : goal.returns
returns g c =
    makes_all_then (makes_all_then c.in_ok-add_columns.ensures c.in_ok-put_new_number.ensures)
    c.put_held.ensures

pub returns-in_err-put_new_number : goal.returns-in_err-put_new_number
returns-in_err-put_new_number g c =
    makes_failed c.from_residual-in_err-put_new_number.ensures.0 c.in_ok-add_columns.ensures
    c.in_err-put_new_number.ensures
