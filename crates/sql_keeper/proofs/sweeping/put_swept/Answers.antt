use Rattle.sql_keeper.specs.Content.{shelf_names}
use Rattle.sql_keeper.proofs.puts.Puts.{list_failed, lists_then, puts_swept}
use Rattle.sql_keeper.proofs.sweeping.put_swept.Goals as goal

pub returns-in_err-put_counters-clause-over : goal.returns-in_err-put_counters-clause-over
returns-in_err-put_counters-clause-over g c =
    list_failed c.from_residual-in_err-put_counters.ensures.0 c.in_ok-put_counted.ensures
    c.in_err-put_counters.ensures

pub returns-in_err-put_sessions-clause-over : goal.returns-in_err-put_sessions-clause-over
returns-in_err-put_sessions-clause-over g c =
    list_failed c.from_residual-in_err-put_sessions.ensures.0
    (lists_then c.in_ok-put_counted.ensures c.in_ok-put_counters.ensures)
    c.in_err-put_sessions.ensures

pub returns-in_err-put_groups-clause-over : goal.returns-in_err-put_groups-clause-over
returns-in_err-put_groups-clause-over g c =
    list_failed c.from_residual-in_err-put_groups.ensures.0
    (lists_then (lists_then c.in_ok-put_counted.ensures c.in_ok-put_counters.ensures)
    c.in_ok-put_sessions.ensures) c.in_err-put_groups.ensures

pub returns-in_err-put_account-clause-over : goal.returns-in_err-put_account-clause-over
returns-in_err-put_account-clause-over g c =
    list_failed c.from_residual-in_err-put_account.ensures.0
    (lists_then (lists_then (lists_then c.in_ok-put_counted.ensures c.in_ok-put_counters.ensures)
    c.in_ok-put_sessions.ensures) c.in_ok-put_groups.ensures)
    (record {
      same_reference = c.in_err-put_account.ensures.same_reference;
      makes = c.in_err-put_account.ensures.makes;
    })

pub returns-clause-over : goal.returns-clause-over
returns-clause-over g c =
    puts_swept c.args.account.now.number (shelf_names c.args.names.now) c.buckets.result.now
    c.counters.result.now c.sessions.result.now c.groups.result.now c.args.account.now.rows
    c.head_named-head.result c.buckets.ensures c.counters.ensures c.sessions.ensures
    c.groups.ensures c.head_named-head.ensures
    (lists_then (lists_then (lists_then c.in_ok-put_counted.ensures c.in_ok-put_counters.ensures)
    c.in_ok-put_sessions.ensures) c.in_ok-put_groups.ensures)
    (record {
      same_reference = c.in_ok-put_account.ensures.same_reference;
      makes = c.in_ok-put_account.ensures.makes;
    })
