use Rattle.std.proofs.Common.{append_assoc}
use Rattle.wire.specs.Allowances.{allowance_data}
use Rattle.json_fields.proofs.Tokens.{perhaps_front}
use Rattle.wire.proofs.allowances.put_allowance.Goals as goal

pub returns-clause-adds : goal.returns-clause-adds
unfolding allowance_data
returns-clause-adds c = (
  rw (
    c.in_ok-end_object.ensures.ok,
    c.in_ok-put_moment-2.ensures.adds.0,
    c.name-5.ensures,
    c.ended.ensures.value,
    c.in_ok-put_number-2.ensures.0,
    c.name-4.ensures,
    c.group_of.ensures.value,
    c.in_ok-put_text.ensures.0,
    c.name-3.ensures,
    c.as_str.ensures.value,
    c.in_ok-put_moment.ensures.adds.0,
    c.name-2.ensures,
    c.started.ensures.value,
    c.in_ok-put_number.ensures.0,
    c.name.ensures,
    c.number_of.ensures.value,
    c.in_ok-begin_object.ensures.ok,
  ) (simp (perhaps_front, append_assoc)),
  rw (
    c.in_ok-end_object.ensures.room.0,
    c.in_ok-put_moment-2.ensures.adds.1,
    c.in_ok-put_number-2.ensures.1,
    c.in_ok-put_text.ensures.1,
    c.in_ok-put_moment.ensures.adds.1,
    c.in_ok-put_number.ensures.1,
    c.in_ok-begin_object.ensures.room.0,
  ),
)
