use Rattle.std.proofs.Common.{drop, Bool}
use Rattle.std.specs.List.{filter}
use Rattle.keepers.specs.Rows.{is_between}
use Rattle.keepers.specs.Visits.{Shows}
use Rattle.keepers.proofs.showing.show.Given as goal

-- what a visitor becomes that is shown the rest, it becomes by all
abbrev pub invariant-loop-row : goal.invariant-loop-row
invariant-loop-row g l = (all : Bool) (new : g.row.V.Denot) →
    Shows g.V.ChargeVisitor.sees
    (filter (is_between l.from l.until) (drop l.row-index l.rows)) all l.visitor new →
    Shows g.V.ChargeVisitor.sees
    (filter (is_between l.from l.until) l.fn.rows) all l.fn.visitor new
