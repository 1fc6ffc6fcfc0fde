use Rattle.std.proofs.Common.{append_assoc}
use Rattle.json_fields.proofs.Tokens.{items_front}
use Rattle.wire_requests.specs.Spelled.{part_items}
use Rattle.wire_requests.proofs.written_services.put_report.Goals as goal

pub returns-clause-adds : goal.returns-clause-adds
returns-clause-adds c = (
  rw (
    c.in_ok-end_array.ensures.ok,
    c.in_ok-put_parts.ensures.0,
    c.kind.ensures,
    c.parts.ensures.value,
    c.in_ok-begin_array.ensures.ok,
    c.in_ok-key.ensures.ok,
    c.name.ensures,
  ) (simp (items_front (part_items c.args.used.now.kind c.args.used.now.parts), append_assoc)),
  rw (
    c.in_ok-end_array.ensures.room.0,
    c.in_ok-put_parts.ensures.1,
    c.in_ok-begin_array.ensures.room.0,
    c.in_ok-key.ensures.room.0,
  ),
)
