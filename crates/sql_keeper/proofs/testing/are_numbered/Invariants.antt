use Rattle.std.proofs.Common.{drop}
use Rattle.sql_keeper.specs.Tests.{AreNumbered}
use Rattle.sql_keeper.proofs.testing.are_numbered.Given as goal

abbrev pub invariant-charges : goal.invariant-charges
invariant-charges l =
    (AreNumbered l.number l.next (drop l.charge-index l.charges) →
    AreNumbered l.from l.next l.charges) × (AreNumbered l.from l.next l.charges →
    AreNumbered l.number l.next (drop l.charge-index l.charges))
