use Rattle.std.proofs.Common.{append_assoc}
use Rattle.wire.specs.Redeemed.{redemption_data}
use Rattle.wire.proofs.redeeming.put_redemption.Goals as goal

pub returns-clause-adds : goal.returns-clause-adds
unfolding redemption_data
returns-clause-adds c = (
  rw (
    c.in_ok-end_object.ensures.ok,
    c.in_ok-put_text-3.ensures.0,
    c.name-3.ensures,
    c.as_str-3.ensures.value,
    c.in_ok-put_text-2.ensures.0,
    c.name-2.ensures,
    c.as_str-2.ensures.value,
    c.in_ok-put_text.ensures.0,
    c.name.ensures,
    c.as_str.ensures.value,
    c.in_ok-begin_object.ensures.ok,
  ) (simp append_assoc),
  rw (
    c.in_ok-end_object.ensures.room.0,
    c.in_ok-put_text-3.ensures.1,
    c.in_ok-put_text-2.ensures.1,
    c.in_ok-put_text.ensures.1,
    c.in_ok-begin_object.ensures.room.0,
  ),
)
