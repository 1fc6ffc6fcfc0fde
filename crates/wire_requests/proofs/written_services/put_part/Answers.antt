use Rattle.std.proofs.Common.{append_assoc}
use Rattle.wire_requests.specs.Spelled.{part_data}
use Rattle.json_fields.proofs.Tokens.{perhaps_front}
use Rattle.wire_requests.proofs.written_services.put_part.Goals as goal

pub returns : goal.returns
unfolding part_data
returns c = (
  rw (
    c.in_ok-end_object.ensures.ok,
    c.in_ok-put_perhaps.ensures.0,
    c.tag_of.ensures,
    c.in_ok-put_number.ensures.0,
    c.unit_name.ensures,
    c.in_ok-begin_object.ensures.ok,
  ) (simp (perhaps_front, append_assoc)),
  rw (
    c.in_ok-end_object.ensures.room.0,
    c.in_ok-put_perhaps.ensures.1,
    c.in_ok-put_number.ensures.1,
    c.in_ok-begin_object.ensures.room.0,
  ),
)
