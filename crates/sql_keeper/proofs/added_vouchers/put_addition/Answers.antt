use Rattle.std.proofs.Common.{None}
use Rattle.sql_keeper.proofs.puts.Puts.{puts_addition}
use Rattle.sql_keeper.proofs.added_vouchers.put_addition.Goals as goal

pub returns : goal.returns
returns g c =
    puts_addition c.args.is_there c.args.code.now c.as_str-code.result.now
    c.args.terms c.args.moment _ c.as_str-code.ensures.value
    (λ i. record {
      amount = c.amount.ensures.value i;
      days = c.days.ensures.value i;
      scope = c.scope.ensures i;
      account = None;
    }) c.in_ok-put_moment.ensures c.put_voucher.ensures
