use Rattle.std.proofs.Common.{append_assoc}
use Rattle.wire.proofs.services.put_units.Goals as goal

pub returns-clause-adds : goal.returns-clause-adds
returns-clause-adds c = (
  rw (c.in_ok-put_granted.ensures.adds.0, c.in_ok-key.ensures.ok) (simp append_assoc),
  rw (c.in_ok-put_granted.ensures.adds.1, c.in_ok-key.ensures.room.0),
)
