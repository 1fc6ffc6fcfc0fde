use Rattle.std.proofs.Common.{◌≡◌, drop}
use Rattle.tariffs.specs.Names.{texts, period_from}
use Rattle.tariffs.proofs.names.period_among.Given as goal

abbrev pub invariant-loop-i : goal.invariant-loop-i
invariant-loop-i l =
    period_from l.i (texts (drop l.i l.names)) l.text ≡ period_from 0 (texts l.names) l.text
