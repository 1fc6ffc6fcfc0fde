use Rattle.std.proofs.Common.{append_assoc}
use Rattle.wire.proofs.services.put_last.Goals as goal

pub returns-in_ok-put_final-in-Some-clause-adds : goal.returns-in_ok-put_final-in-Some-clause-adds
returns-in_ok-put_final-in-Some-clause-adds c =
    rw c.in-Some.is (
      rw (c.in_ok-put_final-in-Some.ensures.adds.0, c.in_ok-key-in-Some.ensures.ok)
          (simp append_assoc),
      rw (c.in_ok-put_final-in-Some.ensures.adds.1, c.in_ok-key-in-Some.ensures.room.0),
    )
