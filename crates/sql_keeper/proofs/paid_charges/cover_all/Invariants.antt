use Rattle.std.proofs.Common.{◌≡◌, ◌++◌, take, drop, map}
use Rattle.sql_keeper.specs.Covered.{covered_charge}
use Rattle.sql_keeper.proofs.paid_charges.cover_all.Given as goal

abbrev pub invariant-loop-charge : goal.invariant-loop-charge
invariant-loop-charge l =
    take l.charge-index l.charge-items
    ++ map (covered_charge l.covered) (drop l.charge-index l.charge-items)
    ≡ map (covered_charge l.covered) l.fn.charges.items
