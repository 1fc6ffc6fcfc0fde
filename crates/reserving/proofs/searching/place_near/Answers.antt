use Rattle.std.proofs.Common.{sym}
use Rattle.reserving.proofs.searching.place_near.Goals as goal

pub returns-then-stands_at : goal.returns-then-stands_at
returns-then-stands_at c = sym (c.stands_at.ensures c.if-stands_at.true)

pub returns-then-stands_at-2 : goal.returns-then-stands_at-2
returns-then-stands_at-2 c = sym (c.stands_at-2.ensures c.if-stands_at-2.true)

pub returns-in-Ok : goal.returns-in-Ok
returns-in-Ok c = sym c.in-Ok.ensures.found

pub returns-in-Err : goal.returns-in-Err
returns-in-Err c = sym c.in-Err.ensures.absent.none
