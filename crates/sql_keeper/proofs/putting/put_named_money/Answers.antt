use Rattle.sql_keeper.proofs.puts.Puts.{makes_failed, puts_money}
use Rattle.sql_keeper.proofs.putting.put_named_money.Goals as goal

pub returns : goal.returns
returns g c =
    puts_money c.args.account.now c.args.kept.now c.args.rows.now c.head_named-head.result
    c.buckets.result.now c.counters.result.now c.head_named-head.ensures c.buckets.ensures
    c.counters.ensures (record {
      same_reference = c.in_ok-put_account.ensures.same_reference;
      makes = c.in_ok-put_account.ensures.makes;
    }) c.in_ok-put_counted_over.ensures c.put_counters.ensures

pub returns-in_err-put_counted_over : goal.returns-in_err-put_counted_over
returns-in_err-put_counted_over g c =
    makes_failed c.from_residual-in_err-put_counted_over.ensures.0 (record {
      same_reference = c.in_ok-put_account.ensures.same_reference;
      makes = c.in_ok-put_account.ensures.makes;
    })
    c.in_err-put_counted_over.ensures
