use Rattle.reserving.proofs.OwnKept.{AreMoved}
use Rattle.reserving.proofs.own_rows.keep_from.Given as goal

abbrev pub invariant-loop-place : goal.invariant-loop-place
invariant-loop-place g l = AreMoved l.first l.place l.fn.rows.items l.rows.items
