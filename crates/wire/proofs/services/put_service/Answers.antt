use Rattle.std.proofs.Common.{append_assoc}
use Rattle.wire.specs.Spelled.{service_data}
use Rattle.json_fields.proofs.Tokens.{perhaps_front}
use Rattle.wire.proofs.services.put_service.Goals as goal

pub returns-clause-adds : goal.returns-clause-adds
unfolding service_data
returns-clause-adds c = (
  rw (
    c.in_ok-end_object.ensures.ok,
    c.in_ok-put_perhaps.ensures.0,
    c.validity_of.ensures.value,
    c.in_ok-put_number-2.ensures.0,
    c.service_code.ensures,
    c.in_ok-put_number.ensures.0,
    c.name.ensures,
    c.in_ok-put_grant.ensures.adds.0,
    c.in_ok-begin_object.ensures.ok,
  ) (simp (perhaps_front, append_assoc)),
  rw (
    c.in_ok-end_object.ensures.room.0,
    c.in_ok-put_perhaps.ensures.1,
    c.in_ok-put_number-2.ensures.1,
    c.in_ok-put_number.ensures.1,
    c.in_ok-put_grant.ensures.adds.1,
    c.in_ok-begin_object.ensures.room.0,
  ),
)
