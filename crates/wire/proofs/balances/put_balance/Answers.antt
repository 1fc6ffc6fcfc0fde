use Rattle.std.proofs.Common.{append_assoc}
use Rattle.wire.specs.SpelledBalances.{balance_data}
use Rattle.wire.proofs.balances.put_balance.Goals as goal

pub returns-clause-adds : goal.returns-clause-adds
unfolding balance_data
returns-clause-adds c = (
  rw (
    c.in_ok-end_object.ensures.ok,
    c.in_ok-put_number.ensures.0,
    c.seconds.ensures.value,
    c.in_ok-put_array.ensures.adds.0,
    c.in_ok-put_flag.ensures.0,
    c.in_ok-put_text.ensures.0,
    c.as_str.ensures.value,
    c.in_ok-begin_object.ensures.ok,
  ) (simp append_assoc),
  rw (
    c.in_ok-end_object.ensures.room.0,
    c.in_ok-put_number.ensures.1,
    c.in_ok-put_array.ensures.adds.1,
    c.in_ok-put_flag.ensures.1,
    c.in_ok-put_text.ensures.1,
    c.in_ok-begin_object.ensures.room.0,
  ),
)
