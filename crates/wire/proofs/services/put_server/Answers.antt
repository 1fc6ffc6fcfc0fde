use Rattle.std.proofs.Common.{append_assoc}
use Rattle.wire.specs.Spelled.{server_data}
use Rattle.wire.proofs.services.put_server.Goals as goal

pub returns-clause-adds : goal.returns-clause-adds
unfolding server_data
returns-clause-adds c = (
  rw (
    c.in_ok-end_object.ensures.ok,
    c.in_ok-put_text.ensures.0,
    c.as_str.ensures.value,
    c.in_ok-put_number.ensures.0,
    c.in_ok-begin_object.ensures.ok,
  ) (simp append_assoc),
  rw (
    c.in_ok-end_object.ensures.room.0,
    c.in_ok-put_text.ensures.1,
    c.in_ok-put_number.ensures.1,
    c.in_ok-begin_object.ensures.room.0,
  ),
)
