use Rattle.std.proofs.Common.{append_assoc}
use Rattle.wire.proofs.writing.put_counted.Goals as goal

pub returns : goal.returns
returns c = (
  rw (
    c.in_ok-end_object.ensures.ok,
    c.in_ok-put_number-2.ensures.0,
    c.in_ok-put_number.ensures.0,
    c.in_ok-begin_object.ensures.ok,
  ) (simp append_assoc),
  rw (
    c.in_ok-end_object.ensures.room.0,
    c.in_ok-put_number-2.ensures.1,
    c.in_ok-put_number.ensures.1,
    c.in_ok-begin_object.ensures.room.0,
  ),
)
